-- A list behind blank places, after one of its items was taken out or moved.
use Rattle.std.proofs.Common.{◌≡◌, ℕ, ◌+◌, ◌-◌, ◌<◌, ◌≤◌, ◌++◌, List, [], ◌∷◌, length, take, drop, get_or, set, refl, sym, ap, ap₂, ◌∙◌, arith}
use Rattle.std.specs.List.{insert, remove}
use Rattle.std.proofs.Math.Seq.{drop-append-add}
use Rattle.std.proofs.lemmas.List.{append_assoc, length-take, length-drop, length-append, drop-drop, drop-append-le, drop-take, drop-set-lt, get_or-append_right}

module _ {X : Type 0} where
  -- without blank places
  turned-here : (f t n : ℕ) (xs : List X) (d : X) → n + f ≡ ℕ.suc t → f ≤ t → t < length xs →
      take f xs ++ ((drop 1 (take n (drop f xs)) ++ take 1 (take n (drop f xs))) ++ drop n (drop f xs)) ≡ insert (remove xs f) t (get_or xs f d)
  turned-here f t n [] d is le lt = absurd (omega arith)
  turned-here ℕ.zero t n (x ∷ xs) d is le lt =
      let next : n ≡ ℕ.suc t = omega arith in
      ap (λ m. (drop 1 (take m (x ∷ xs)) ++ take 1 (take m (x ∷ xs))) ++ drop m (x ∷ xs)) next ∙ append_assoc (take t xs) (x ∷ []) (drop t xs)
  turned-here (ℕ.suc f) ℕ.zero n (x ∷ xs) d is le lt = absurd (omega arith)
  turned-here (ℕ.suc f) (ℕ.suc t) n (x ∷ xs) d is le lt =
      ap (λ zs. x ∷ zs) (turned-here f t n xs d (omega arith) (omega arith) (omega arith))

  -- so many of a list, from a place on, with the first of them behind the others
  abbrev turned_from : ℕ → List X → List X
  turned_from n zs = (drop 1 (take n zs) ++ take 1 (take n zs)) ++ drop n zs

  pub turned : (b f t k : ℕ) (ps ys : List X) (d : X) → k + f ≡ ℕ.suc t → f ≤ t → b + t < length ps →
      ys ≡ drop 1 (take k (drop (b + f) ps)) ++ take 1 (take k (drop (b + f) ps)) →
      drop b (take (b + f) ps ++ (ys ++ drop k (drop (b + f) ps))) ≡ insert (remove (drop b ps) f) t (get_or (drop b ps) f d)
  turned b f t k ps ys d is le lt e =
      let long = length-take (b + f) ps in
      let rest = length-drop b ps in
      drop-append-le b (take (b + f) ps) (ys ++ drop k (drop (b + f) ps)) (omega arith)
      ∙ ap₂ (λ us vs. us ++ vs) (drop-take b f ps)
      (ap (λ zs. zs ++ drop k (drop (b + f) ps)) e ∙ ap (turned_from k) (sym (drop-drop f b ps)))
      ∙ turned-here f t k (drop b ps) d is le (omega arith)

  -- as long as it was
  pub turned-long : (a k : ℕ) (ps ys : List X) → a + k ≤ length ps → length ys ≡ k → length (take a ps ++ (ys ++ drop k (drop a ps))) ≡ length ps
  turned-long a k ps ys le long =
      let whole = length-append (take a ps) (ys ++ drop k (drop a ps)) in
      let parts = length-append ys (drop k (drop a ps)) in
      let front = length-take a ps in
      let rest = length-drop k (drop a ps) in
      let from = length-drop a ps in
      omega arith

  -- one behind the blank places taken out
  pub removed-behind : (b p : ℕ) (ps : List X) → b + p < length ps → drop b (remove ps (b + p)) ≡ remove (drop b ps) p
  removed-behind b p ps lt =
      let long = length-take (b + p) ps in
      let next : ℕ.suc (b + p) ≡ b + ℕ.suc p = omega arith in
      drop-append-le b (take (b + p) ps) (drop (ℕ.suc (b + p)) ps) (omega arith)
      ∙ ap₂ (λ us vs. us ++ vs) (drop-take b p ps) (ap (λ n. drop n ps) next ∙ sym (drop-drop (ℕ.suc p) b ps))

  -- ===== So many of a list, from a place on, with the last of them before the others

  last-alone : (p : ℕ) (zs : List X) (d : X) → p < length zs → drop p (take (ℕ.suc p) zs) ≡ get_or zs p d ∷ []
  last-alone p [] d lt = absurd (omega arith)
  last-alone ℕ.zero (z ∷ zs) d lt = refl
  last-alone (ℕ.suc p) (z ∷ zs) d lt = last-alone p zs d (omega arith)

  without-last : (p : ℕ) (zs : List X) → take p (take (ℕ.suc p) zs) ≡ take p zs
  without-last ℕ.zero zs = refl
  without-last (ℕ.suc p) [] = refl
  without-last (ℕ.suc p) (z ∷ zs) = ap (λ us. z ∷ us) (without-last p zs)

  abbrev last_first : ℕ → List X → List X
  last_first k zs = drop (length (take k zs) - 1) (take k zs) ++ take (length (take k zs) - 1) (take k zs)

  fronted : (p k : ℕ) (zs ys : List X) (d : X) → k ≡ ℕ.suc p → p < length zs → ys ≡ last_first k zs → ys ≡ get_or zs p d ∷ take p zs
  fronted p k zs ys d is lt e =
      let long = length-take k zs in
      let last : length (take k zs) - 1 ≡ p = omega arith in
      e ∙ ap (λ m. drop m (take k zs) ++ take m (take k zs)) last ∙ ap (λ m. drop p (take m zs) ++ take p (take m zs)) is
      ∙ ap₂ (λ us vs. us ++ vs) (last-alone p zs d lt) (without-last p zs)

  pub front-item : (b p k : ℕ) (ps ys : List X) (d : X) → k ≡ ℕ.suc p → b + p < length ps → ys ≡ last_first k (drop b ps) →
      get_or (take b ps ++ (ys ++ drop k (drop b ps))) b d ≡ get_or (drop b ps) p d
  front-item b p k ps ys d is lt e =
      let long = length-take b ps in
      let rest = length-drop b ps in
      get_or-append_right (take b ps) (ys ++ drop k (drop b ps)) b b d (omega arith) (omega arith)
      ∙ ap (λ m. get_or (ys ++ drop k (drop b ps)) m d) (omega arith)
      ∙ ap (λ us. get_or (us ++ drop k (drop b ps)) 0 d) (fronted p k (drop b ps) ys d is (omega arith) e)

  pub front-rest : (b p k : ℕ) (ps ys : List X) (y : X) → k ≡ ℕ.suc p → b + p < length ps → ys ≡ last_first k (drop b ps) →
      drop (b + 1) (set (take b ps ++ (ys ++ drop k (drop b ps))) b y) ≡ remove (drop b ps) p
  front-rest b p k ps ys y is lt e =
      let long = length-take b ps in
      let rest = length-drop b ps in
      let whole = take b ps ++ (ys ++ drop k (drop b ps)) in
      drop-set-lt (b + 1) whole b y (omega arith)
      ∙ ap (λ m. drop m whole) (omega arith)
      ∙ drop-append-add (take b ps) (ys ++ drop k (drop b ps)) 1
      ∙ ap (λ us. drop 1 (us ++ drop k (drop b ps))) (fronted p k (drop b ps) ys y is (omega arith) e)
      ∙ ap (λ m. take p (drop b ps) ++ drop m (drop b ps)) is

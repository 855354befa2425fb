-- Lists of states in the order of their arrival, and what of them arrived before a bound and since.
use Rattle.std.proofs.Common.{◌≡◌, ℕ, zero, suc, ◌+◌, ◌<◌, ◌≤◌, Bool, true, false, ◌&&◌, leb, ltb, List, [], ◌∷◌, ◌++◌, length, take, filter, slice_get}
use Rattle.std.proofs.Common.{Some, IsTrue, IsFalse, inl, inr, refl, sym, ap, subst, ◌∙◌, arith}
use Rattle.std.proofs.lemmas.Bool.{and_parts, and_from, and_left, and_right, cases_Bool, false_from_ne_true, le-leb, leb-true, leb-false, ltb-true, lt-ltb}
use Rattle.std.proofs.lemmas.Option.{none-some, same_Some}
use Rattle.tardis_base.specs.declared.ids.StateId.{StateId}
use Rattle.tardis_base.specs.Ids.{is_among}
use Rattle.plain_dag.proofs.States.{same_test, not-both, among-first, among-later, among-cases}
use Rattle.plain_dag.proofs.Rising.{Rising}

-- ===== What is kept of a list

-- tests that agree on these keep the same of them
pub filter-agrees : (p q : StateId → Bool) (xs : List StateId) → ((x : StateId) → IsTrue (is_among x xs) → p x ≡ q x) → filter p xs ≡ filter q xs
filter-agrees p q [] f = refl
filter-agrees p q (x ∷ xs) f =
    let rest = filter-agrees p q xs (λ y m. f y (among-later y x xs m)) in
    let here = f x (among-first x xs) in
    elim (cases_Bool (q x)) [
      | inl t ↦ rw (here ∙ t, t) (ap (λ zs. x ∷ zs) rest)
      | inr n ↦ rw (here ∙ n, n) rest
    ]

pub filter-none : (p : StateId → Bool) (xs : List StateId) → ((x : StateId) → IsTrue (is_among x xs) → IsFalse (p x)) → filter p xs ≡ []
filter-none p [] f = refl
filter-none p (x ∷ xs) f = rw (f x (among-first x xs)) (filter-none p xs (λ y m. f y (among-later y x xs m)))

-- ===== Since a bound, and before it

module _ (arr : StateId → ℕ) where
  -- how many arrived since
  abbrev pub count : ℕ → List StateId → ℕ
  count b xs = length (filter (λ x. leb b (arr x)) xs)

  count-fewer : (a b : ℕ) (xs : List StateId) → a ≤ b → count b xs ≤ count a xs
  count-fewer a b [] le = omega arith
  count-fewer a b (x ∷ xs) le =
      let rest = count-fewer a b xs le in
      elim (cases_Bool (leb b (arr x))) [
        | inl t ↦ (let m = leb-true b (arr x) t in let u = le-leb a (arr x) (omega arith) in rw (t, u) (omega arith))
        | inr n ↦ elim (cases_Bool (leb a (arr x))) [
          | inl u ↦ rw (n, u) (omega arith)
          | inr o ↦ rw (n, o) (omega arith)
        ]
      ]

  pub count-more : (a b : ℕ) (xs : List StateId) (p : StateId) → IsTrue (is_among p xs) → arr p ≡ a → a < b → count b xs + 1 ≤ count a xs
  count-more a b [] p m is lt = not-both false m refl
  count-more a b (x ∷ xs) p m is lt = elim (among-cases p x xs m) [
    | inl e ↦
        let at = ap arr e in
        let fewer = count-fewer a b xs (omega arith) in
        let t = le-leb a (arr x) (omega arith) in
        let n : IsFalse (leb b (arr x)) = false_from_ne_true (leb b (arr x)) (λ u. let m = leb-true b (arr x) u in omega arith) in
        rw (t, n) (omega arith)
    | inr later ↦
        let rest = count-more a b xs p later is lt in
        elim (cases_Bool (leb b (arr x))) [
          | inl t ↦ (let m = leb-true b (arr x) t in let u = le-leb a (arr x) (omega arith) in rw (t, u) (omega arith))
          | inr n ↦ elim (cases_Bool (leb a (arr x))) [
            | inl u ↦ rw (n, u) (omega arith)
            | inr o ↦ rw (n, o) (omega arith)
          ]
        ]
  ]

  count-within : (b : ℕ) (xs : List StateId) → count b xs ≤ length xs
  count-within b [] = omega arith
  count-within b (x ∷ xs) =
      let rest = count-within b xs in
      elim (cases_Bool (leb b (arr x))) [ inl t ↦ rw t (omega arith) | inr n ↦ rw n (omega arith) ]

  -- where all are counted, each arrived since
  pub count-all : (b : ℕ) (xs : List StateId) → length xs ≤ count b xs → (x : StateId) → IsTrue (is_among x xs) → b ≤ arr x
  count-all b [] all x m = not-both false m refl
  count-all b (y ∷ xs) all x m = elim (cases_Bool (leb b (arr y))) [
    | inl t ↦
        let counted : suc (length xs) ≤ suc (count b xs) = rw t at all in
        elim (among-cases x y xs m) [
          | inl e ↦ (let at = ap arr e in let le = leb-true b (arr y) t in omega arith)
          | inr later ↦ count-all b xs (omega arith) x later
        ]
    | inr n ↦
        let counted : suc (length xs) ≤ count b xs = rw n at all in
        let most = count-within b xs in
        absurd (omega arith)
  ]

  module _ (q : StateId → Bool) where
    since-is : (b : ℕ) (x : StateId) → IsTrue (q x) → b ≤ arr x → (q x && leb b (arr x)) ≡ true
    since-is b x t le = and_from (q x) (leb b (arr x)) t (le-leb b (arr x) le)

    since-isnt : (b : ℕ) (x : StateId) → arr x < b → (q x && leb b (arr x)) ≡ false
    since-isnt b x lt = and_right (q x) (leb b (arr x)) (false_from_ne_true (leb b (arr x)) (λ u. let m = leb-true b (arr x) u in omega arith))

    -- where none that passes arrived between, those since the one bound are those since the other
    pub none-between : (a b : ℕ) (xs : List StateId) → a ≤ b → ((x : StateId) → IsTrue (is_among x xs) → IsTrue (q x) → a ≤ arr x → arr x < b → ⊥) →
        filter (λ x. q x && leb a (arr x)) xs ≡ filter (λ x. q x && leb b (arr x)) xs
    none-between a b xs le gap = filter-agrees (λ x. q x && leb a (arr x)) (λ x. q x && leb b (arr x)) xs
        (λ x m. same_test (q x && leb a (arr x)) (q x && leb b (arr x))
        (λ t.
        let parts = and_parts (q x) (leb a (arr x)) t in
        let from = leb-true a (arr x) parts.1 in
        and_from (q x) (leb b (arr x)) parts.0 (elim (cases_Bool (leb b (arr x)))
        [ inl u ↦ u | inr n ↦ absurd (gap x m parts.0 from (let lt = leb-false b (arr x) n in omega arith)) ]))
        (λ t.
        let parts = and_parts (q x) (leb b (arr x)) t in
        let from = leb-true b (arr x) parts.1 in
        and_from (q x) (leb a (arr x)) parts.0 (le-leb a (arr x) (omega arith))))

    -- since a state that passes there are it and those since a later bound, where none is between
    pub one-more : (a b : ℕ) (xs : List StateId) (p : StateId) → Rising arr xs → IsTrue (is_among p xs) → arr p ≡ a → a < b → IsTrue (q p) →
        ((x : StateId) → IsTrue (is_among x xs) → IsTrue (q x) → a < arr x → arr x < b → ⊥) →
        filter (λ x. q x && leb a (arr x)) xs ≡ p ∷ filter (λ x. q x && leb b (arr x)) xs
    one-more a b [] p up m is lt t gap = not-both false m refl
    one-more a b (z ∷ zs) p up m is lt t gap = elim (among-cases p z zs m) [
      | inl e ↦
          let at = ap arr e in
          let here = since-is a z (subst (λ w. IsTrue (q w)) e t) (omega arith) in
          let out = since-isnt b z (omega arith) in
          let rest = none-between a b zs (omega arith) (λ x later passes from to. gap x (among-later x z zs later) passes (let l = up.0 x later in
          omega arith) to) in
          rw (here, out) (subst (λ w. z ∷ filter (λ x. q x && leb a (arr x)) zs ≡ w ∷ filter (λ x. q x && leb b (arr x)) zs) (sym e) (ap (λ ws. z ∷ ws) rest))
      | inr later ↦
          let l = up.0 p later in
          let out_a = since-isnt a z (omega arith) in
          let out_b = since-isnt b z (omega arith) in
          rw (out_a, out_b) (one-more a b zs p up.1 later is lt t (λ x among passes from to. gap x (among-later x z zs among) passes from to))
    ]

    pub until-is : (b : ℕ) (x : StateId) → arr x < b → (q x && ltb (arr x) b) ≡ q x
    until-is b x lt = elim (cases_Bool (q x)) [
      | inl t ↦ and_from (q x) (ltb (arr x) b) t (lt-ltb (arr x) b lt) ∙ sym t
      | inr n ↦
          and_left (q x) (ltb (arr x) b) n ∙ sym n
    ]

    until-isnt : (b : ℕ) (x : StateId) → b ≤ arr x → (q x && ltb (arr x) b) ≡ false
    until-isnt b x le = and_right (q x) (ltb (arr x) b) (false_from_ne_true (ltb (arr x) b) (λ u. let m = ltb-true (arr x) b u in omega arith))

    -- all that pass are those before a bound and those since
    pub parted : (b : ℕ) (xs : List StateId) → Rising arr xs → filter q xs ≡ filter (λ x. q x && ltb (arr x) b) xs ++ filter (λ x. q x && leb b (arr x)) xs
    parted b [] up = refl
    parted b (z ∷ zs) up = elim (cases_Bool (leb b (arr z))) [
      | inl t ↦
          let from = leb-true b (arr z) t in
          let before : filter (λ x. q x && ltb (arr x) b) (z ∷ zs) ≡ [] =
          filter-none (λ x. q x && ltb (arr x) b) (z ∷ zs) (λ x m. until-isnt b x (later x m from)) in
          let after : filter q (z ∷ zs) ≡ filter (λ x. q x && leb b (arr x)) (z ∷ zs) =
          filter-agrees q (λ x. q x && leb b (arr x)) (z ∷ zs) (λ x m. all-since x (later x m from)) in
          after ∙ ap (λ ws. ws ++ filter (λ x. q x && leb b (arr x)) (z ∷ zs)) (sym before)
      | inr n ↦
          let lt : arr z < b = (let l = leb-false b (arr z) n in omega arith) in
          let before = lt-ltb (arr z) b lt in
          let rest = parted b zs up.1 in
          elim (cases_Bool (q z)) [ inl u ↦ rw (u, before, n) (ap (λ ws. z ∷ ws) rest) | inr o ↦ rw o rest ]
    ]
      where
        later : (x : StateId) → IsTrue (is_among x (z ∷ zs)) → b ≤ arr z → b ≤ arr x
        later x m from = elim (among-cases x z zs m) [
          | inl e ↦ (let at = ap arr e in omega arith)
          | inr more ↦ (let l = up.0 x more in omega arith)
        ]

        all-since : (x : StateId) → b ≤ arr x → q x ≡ (q x && leb b (arr x))
        all-since x le = elim (cases_Bool (q x)) [ inl t ↦ t ∙ sym (since-is b x t le) | inr o ↦ o ∙ sym (and_left (q x) (leb b (arr x)) o) ]

    -- those before the bound stand in front of the first that isn't
    pub until-front : (b : ℕ) (xs : List StateId) (i : ℕ) (x : StateId) → Rising arr xs → slice_get xs i ≡ Some x → b ≤ arr x →
        filter (λ y. q y && ltb (arr y) b) xs ≡ filter (λ y. q y && ltb (arr y) b) (take i xs)
    until-front b [] i x up e le = absurd (none-some x e)
    until-front b (z ∷ zs) zero x up e le =
        let same = same_Some z x e in
        let at = ap arr same in
        filter-none (λ y. q y && ltb (arr y) b) (z ∷ zs) (λ y m. until-isnt b y (elim (among-cases y z zs m) [
          | inl is ↦ (let here = ap arr is in omega arith)
          | inr more ↦ (let l = up.0 y more in omega arith)
        ]))
    until-front b (z ∷ zs) (suc i) x up e le =
        let rest = until-front b zs i x up.1 e le in
        elim (cases_Bool (q z && ltb (arr z) b)) [ inl t ↦ rw t (ap (λ ws. z ∷ ws) rest) | inr n ↦ rw n rest ]

    -- all arrived since the first
    pub since-first : (xs : List StateId) → filter (λ x. q x && leb 0 (arr x)) xs ≡ filter q xs
    since-first xs = filter-agrees (λ x. q x && leb 0 (arr x)) q xs (λ x m. elim (cases_Bool (q x)) [
      | inl t ↦ and_from (q x) (leb 0 (arr x)) t (le-leb 0 (arr x) (omega arith)) ∙ sym t
      | inr n ↦ and_left (q x) (leb 0 (arr x)) n ∙ sym n
    ])

-- The states that slots name, place by place.
use Rattle.std.proofs.Common.{◌≡◌, ℕ, zero, suc, ◌+◌, ◌<◌, Bool, true, ◌&&◌, List, [], ◌∷◌, ◌++◌, length, take, map, filter, reverse, get_or, slice_get}
use Rattle.std.proofs.Common.{Option, Some, IsTrue, IsFalse, refl, sym, ap, subst, ◌∙◌, arith, add-one, append-nil}
use Rattle.std.specs.List.{list_all}
use Rattle.std.proofs.lemmas.Bool.{and_parts, and_from, cond-true, cond-false}
use Rattle.std.proofs.lemmas.Option.{none-some, same_Some}
use Rattle.std.proofs.lemmas.List.{length-map, map-append, reverse-append}
use Rattle.std.proofs.lemmas.List.Elements.{filter-append}
use Rattle.std.proofs.lemmas.List.Folds.{list_all-append}
use Rattle.tardis_base.specs.declared.ids.StateId.{StateId}
use Rattle.tardis_base.specs.declared.ids.Slot.{Slot}
use Rattle.tardis_base.specs.Ids.{is_among}
use Rattle.plain_dag.proofs.Ids.{among-first, among-later}

-- ===== One more

take-got_suc : (xs : List StateId) (i : ℕ) (d : StateId) → i < length xs → take (suc i) xs ≡ take i xs ++ get_or xs i d ∷ []
take-got_suc [] i d lt = absurd (omega arith)
take-got_suc (x ∷ xs) zero d lt = refl
take-got_suc (x ∷ xs) (suc i) d lt = ap (λ zs. x ∷ zs) (take-got_suc xs i d (omega arith))

pub take-got : (xs : List StateId) (i : ℕ) (d : StateId) → i < length xs → take (i + 1) xs ≡ take i xs ++ get_or xs i d ∷ []
take-got xs i d lt = subst (λ n. take n xs ≡ take i xs ++ get_or xs i d ∷ []) (sym (add-one i)) (take-got_suc xs i d lt)

take-suc : (xs : List StateId) (i : ℕ) (x : StateId) → slice_get xs i ≡ Some x → take (suc i) xs ≡ take i xs ++ x ∷ []
take-suc [] i x e = absurd (none-some x e)
take-suc (y ∷ xs) zero x e = ap (λ z. z ∷ []) (same_Some y x e)
take-suc (y ∷ xs) (suc i) x e = ap (λ zs. y ∷ zs) (take-suc xs i x e)

pub got-is_among : (xs : List StateId) (i : ℕ) (x : StateId) → slice_get xs i ≡ Some x → IsTrue (is_among x xs)
got-is_among [] i x e = absurd (none-some x e)
got-is_among (y ∷ xs) zero x e = subst (λ z. IsTrue (is_among z (y ∷ xs))) (same_Some y x e) (among-first y xs)
got-is_among (y ∷ xs) (suc i) x e = among-later x y xs (got-is_among xs i x e)

module _ (name : Slot → Option StateId) where
  pub named-length : (ss : List Slot) (xs : List StateId) → map name ss ≡ map (λ x. Some x) xs → length ss ≡ length xs
  named-length ss xs are = sym (length-map ss name) ∙ (ap length are ∙ length-map xs (λ x. Some x))

  -- the state at a place
  pub record IsNamedAt (xs : List StateId) (i : ℕ) (s : Slot) : Type 0 where
    pub state : StateId
    pub named : name s ≡ Some state
    pub got : slice_get xs i ≡ Some state
    pub one : IsTrue (is_among state xs)
    pub next : take (i + 1) xs ≡ take i xs ++ state ∷ []

  named-at : (ss : List Slot) (xs : List StateId) (i : ℕ) (d : Slot) → map name ss ≡ map (λ x. Some x) xs → i < length ss → (x : StateId)
      × (name (get_or ss i d) ≡ Some x) × (slice_get xs i ≡ Some x)
  named-at [] xs i d are lt = absurd (omega arith)
  named-at (s ∷ ss) [] i d are lt = absurd (let bad : ⊥ = cc in bad)
  named-at (s ∷ ss) (x ∷ xs) zero d are lt = (let here : name s ≡ Some x = cc in (x, here, refl))
  named-at (s ∷ ss) (x ∷ xs) (suc i) d are lt = (let rest : map name ss ≡ map (λ z. Some z) xs = cc in named-at ss xs i d rest (omega arith))

  pub named-next : (ss : List Slot) (xs : List StateId) (i : ℕ) (d : Slot) → map name ss ≡ map (λ x. Some x) xs → i < length ss → IsNamedAt xs i (get_or ss i d)
  named-next ss xs i d are lt =
      let w = named-at ss xs i d are lt in
      record {
        state = w.0;
        named = w.1;
        got = w.2;
        one = got-is_among xs i w.0 w.2;
        next =
            subst (λ n. take n xs ≡ take i xs ++ w.0 ∷ []) (sym (add-one i)) (take-suc xs i w.0 w.2);
      }

  -- of one place more one slot more passes, or none
  pub passing-more : (p : StateId → Bool) (xs : List StateId) (i : ℕ) (x : StateId) (ss : List Slot) (s : Slot) → take (i + 1) xs ≡ take i xs ++ x ∷ [] →
      name s ≡ Some x → IsTrue (p x) → map name ss ≡ map (λ y. Some y) (filter p (take i xs)) →
      map name (ss ++ s ∷ []) ≡ map (λ y. Some y) (filter p (take (i + 1) xs))
  passing-more p xs i x ss s next named passes are =
      let some : StateId → Option StateId = λ y. Some y in
      let more : filter p (take (i + 1) xs) ≡ filter p (take i xs) ++ x ∷ [] = ap (filter p) next ∙ filter-append p (take i xs) (x ∷ [])
      ∙ ap (λ zs. filter p (take i xs) ++ zs) (cond-true (p x) (x ∷ []) [] passes) in
      map-append name ss (s ∷ [])
      ∙ ap (λ os. os ++ name s ∷ []) are
      ∙ ap (λ o. map some (filter p (take i xs)) ++ o ∷ []) named
      ∙ sym (map-append some (filter p (take i xs)) (x ∷ []))
      ∙ ap (map some) (sym more)

  pub passing-same : (p : StateId → Bool) (xs : List StateId) (i : ℕ) (x : StateId) (ss : List Slot) → take (i + 1) xs ≡ take i xs ++ x ∷ [] →
      IsFalse (p x) → map name ss ≡ map (λ y. Some y) (filter p (take i xs)) → map name ss ≡ map (λ y. Some y) (filter p (take (i + 1) xs))
  passing-same p xs i x ss next fails are =
      let none : filter p (take (i + 1) xs) ≡ filter p (take i xs) ++ [] = ap (filter p) next ∙ filter-append p (take i xs) (x ∷ [])
      ∙ ap (λ zs. filter p (take i xs) ++ zs) (cond-false (p x) (x ∷ []) [] fails) in
      let same : filter p (take i xs) ++ [] ≡ filter p (take i xs) = simp append-nil in
      are ∙ ap (map (λ y. Some y)) (sym (none ∙ same))

-- ===== Turned round

pub all-reversed : (p : Slot → Bool) (ss : List Slot) → IsTrue (list_all p ss) → IsTrue (list_all p (reverse ss))
all-reversed p [] all = refl
all-reversed p (s ∷ ss) all =
    let parts = and_parts (p s) (list_all p ss) all in
    ap (list_all p) (reverse-append (s ∷ []) ss) ∙ (list_all-append p (reverse ss) (s ∷ [])
    ∙ and_from (list_all p (reverse ss)) (p s && true) (all-reversed p ss parts.1) (and_from (p s) true parts.0 refl))

pub all-both : (p : Slot → Bool) (ss ts : List Slot) → IsTrue (list_all p ss) → IsTrue (list_all p ts) → IsTrue (list_all p (ss ++ ts))
all-both p ss ts a b = list_all-append p ss ts ∙ and_from (list_all p ss) (list_all p ts) a b

pub all-more : (p : Slot → Bool) (ss : List Slot) (s : Slot) → IsTrue (list_all p ss) → IsTrue (p s) → IsTrue (list_all p (ss ++ s ∷ []))
all-more p ss s a b = all-both p ss (s ∷ []) a (and_from (p s) true b refl)

pub all-got : (p : Slot → Bool) (ss : List Slot) (i : ℕ) (d : Slot) → IsTrue (list_all p ss) → i < length ss → IsTrue (p (get_or ss i d))
all-got p [] i d all lt = absurd (omega arith)
all-got p (s ∷ ss) zero d all lt = (and_parts (p s) (list_all p ss) all).0
all-got p (s ∷ ss) (suc i) d all lt = all-got p ss i d (and_parts (p s) (list_all p ss) all).1 (omega arith)

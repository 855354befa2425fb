-- Places in a list of states.
use Rattle.std.proofs.Common.{◌≡◌, ℕ, zero, suc, ◌+◌, ◌≤◌, List, [], ◌∷◌, ◌++◌, length, take, slice_get, Option, Some, None, IsTrue, inl, inr, sym, ap, subst}
use Rattle.std.proofs.Common.{◌∙◌, add-one}
use Rattle.std.proofs.lemmas.Option.{none-some, same_Some, slice_get_cases}
use Rattle.tardis_base.specs.declared.ids.StateId.{StateId}
use Rattle.tardis_base.specs.Ids.{is_among}
use Rattle.plain_dag.proofs.Ids.{among-first, among-later}

pub take-suc : (xs : List StateId) (i : ℕ) (x : StateId) → slice_get xs i ≡ Some x → take (suc i) xs ≡ take i xs ++ x ∷ []
take-suc [] i x e = absurd (none-some x e)
take-suc (y ∷ xs) zero x e = ap (λ z. z ∷ []) (same_Some y x e)
take-suc (y ∷ xs) (suc i) x e = ap (λ zs. y ∷ zs) (take-suc xs i x e)

-- one more of these
pub take-next : (xs : List StateId) (i : ℕ) (x : StateId) → slice_get xs i ≡ Some x → take (i + 1) xs ≡ take i xs ++ x ∷ []
take-next xs i x e = subst (λ n. take n xs ≡ take i xs ++ x ∷ []) (sym (add-one i)) (take-suc xs i x e)

-- a place that has none is behind the end
pub past-end : (xs : List StateId) (i : ℕ) → ◌≡◌ {A = Option StateId} (slice_get xs i) None → length xs ≤ i
past-end xs i e = elim ((slice_get_cases xs i).1) [
  | inl there ↦ absurd (none-some there.0 (sym e ∙ there.2))
  | inr past ↦ past.0
]

-- what stands at a place is one of them
pub got-is_among : (xs : List StateId) (i : ℕ) (x : StateId) → slice_get xs i ≡ Some x → IsTrue (is_among x xs)
got-is_among [] i x e = absurd (none-some x e)
got-is_among (y ∷ xs) zero x e = subst (λ z. IsTrue (is_among z (y ∷ xs))) (same_Some y x e) (among-first y xs)
got-is_among (y ∷ xs) (suc i) x e = among-later x y xs (got-is_among xs i x e)

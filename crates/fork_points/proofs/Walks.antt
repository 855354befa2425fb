-- Filters one behind the other.
use Rattle.std.proofs.Common.{◌≡◌, Bool, List, [], ◌∷◌, filter, IsTrue, IsFalse, inl, inr, refl, ap}
use Rattle.std.proofs.lemmas.Bool.{cases_Bool, both_ways, false_from_ne_true}
use Rattle.tardis_base.specs.declared.ids.StateId.{StateId}
use Rattle.tardis_base.specs.Ids.{is_among}
use Rattle.plain_dag.proofs.Ids.{among-first, among-later}

-- what passes one test passes the other: it is found behind that one too
pub filter-behind : (p q : StateId → Bool) (xs : List StateId) → ((x : StateId) → IsTrue (is_among x xs) → IsTrue (p x) → IsTrue (q x)) →
    filter p (filter q xs) ≡ filter p xs
filter-behind p q [] f = refl
filter-behind p q (x ∷ xs) f =
    let rest = filter-behind p q xs (λ y m. f y (among-later y x xs m)) in
    elim (cases_Bool (q x)) [
      | inl t ↦ elim (cases_Bool (p x)) [
        | inl u ↦ rw (t, u) (ap (λ zs. x ∷ zs) rest)
        | inr n ↦ rw (t, n) rest
      ]
      | inr n ↦
          let out : IsFalse (p x) = false_from_ne_true (p x) (λ u. both_ways (q x) n (f x (among-first x xs) u)) in
          rw (n, out) rest
    ]

-- What is found first among the states, the newest first.
use Rattle.std.proofs.Common.{◌≡◌, ◌≤◌, Bool, List, [], ◌∷◌, find, Some, IsTrue, IsFalse, inl, inr, sym, ap, subst, ◌∙◌, arith}
use Rattle.std.proofs.lemmas.Bool.{cases_Bool, both_ways, cond-true, cond-false, false_from_ne_true}
use Rattle.std.proofs.lemmas.Option.{none-some, same_Some}
use Rattle.tardis_base.specs.declared.ids.StateId.{StateId}
use Rattle.tardis_base.specs.declared.records.Record.{Record}
use Rattle.tardis_base.specs.Ids.{same_id}
use Rattle.plain_dag.specs.States.{states, arrival, is_known}
use Rattle.plain_dag.proofs.Ids.{same_id-true, same_id_self}
use Rattle.plain_dag.proofs.Histories.{Grows, known-before, known-isnt-newest, arrival-newest, arrival-before, arrival_is_below}
use Rattle.plain_dag.proofs.Searches.{found-passes}

-- what is found arrived last of those that pass
pub found-is-last : (rs : List Record) → Grows rs → (p : StateId → Bool) (y n : StateId) → find p (states rs) ≡ Some y → IsTrue (is_known rs n) →
    IsTrue (p n) → arrival rs n ≤ arrival rs y
found-is-last [] g p y n e known passes = absurd (none-some y e)
found-is-last (r ∷ rs) g p y n e known passes = elim (cases_Bool (p r.id)) [
  | inl t ↦
      let same : r.id ≡ y = same_Some r.id y (sym (cond-true (p r.id) (Some r.id) (find p (states rs)) t) ∙ e) in
      let newest = arrival-newest rs r r.id (same_id_self r.id) in
      let below = arrival_is_below (r ∷ rs) n known in
      let equal = ap (arrival (r ∷ rs)) same in
      omega arith
  | inr f ↦
      let rest = sym (cond-false (p r.id) (Some r.id) (find p (states rs)) f) ∙ e in
      let other : IsFalse (same_id n r.id) = false_from_ne_true (same_id n r.id)
      (λ t. both_ways (p r.id) f (subst (λ z. IsTrue (p z)) (same_id-true n r.id t) passes)) in
      let old_y = arrival-before rs r y (known-isnt-newest rs r y g.0 (found-passes p (states rs) y rest).0) in
      let old_n = arrival-before rs r n other in
      let le = found-is-last rs g.1 p y n rest (known-before rs r n known other) passes in
      omega arith
]

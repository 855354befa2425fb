-- The newest kept state below another.
use Rattle.std.proofs.Common.{◌≡◌, ◌≤◌, ◌<◌, Bool, not, List, [], ◌∷◌, find, Some, IsTrue, IsFalse, unwrap_or, inl, inr, sym, ap}
use Rattle.std.proofs.Common.{subst, ◌∙◌, arith}
use Rattle.std.proofs.lemmas.Bool.{and_parts, cases_Bool, both_ways, cond-true, cond-false, false_from_ne_true, cases_lt}
use Rattle.std.proofs.lemmas.Option.{none-some, same_Some}
use Rattle.tardis_base.specs.declared.ids.StateId.{StateId}
use Rattle.tardis_base.specs.declared.records.Record.{Record}
use Rattle.tardis_base.specs.Ids.{same_id, is_among}
use Rattle.plain_dag.specs.States.{states, arrived, arrival, is_known}
use Rattle.plain_dag.specs.Above.{is_above}
use Rattle.plain_dag.specs.Forks.{is_leaf, leaves}
use Rattle.plain_dag.specs.Begin.{last_below}
use Rattle.plain_dag.specs.Collection.{is_kept, stand_in}
use Rattle.plain_dag.proofs.Ids.{not-both, same_id-true, same_id_self}
use Rattle.plain_dag.proofs.Histories.{Grows, dag-grows, known-before, known-isnt-newest, arrival-newest, arrival-before, arrival_is_below}
use Rattle.plain_dag.proofs.Order.{above-reflexive, arrivals-differ}
use Rattle.plain_dag.proofs.Searches.{found-passes, finds-passing, among-filter}
use Rattle.plain_dag.proofs.Leaves.{begins-at-leaves}
use Rattle.plain_dag.proofs.StandIns.{stands-in-well}
use Rattle.state_dag.specs.Table.{Table}
use Rattle.state_dag.specs.Stands.{Stands}
use Rattle.state_dag.proofs.Known.{known-is_arrived}

-- what is found arrived last of those that pass
found-is-last : (rs : List Record) → Grows rs → (p : StateId → Bool) (y n : StateId) → find p (states rs) ≡ Some y → IsTrue (is_known rs n) → IsTrue (p n)
    → arrival rs n ≤ arrival rs y
found-is-last [] g p y n e known passes = absurd (none-some y e)
found-is-last (r ∷ rs) g p y n e known passes = elim (cases_Bool (p r.id)) [
  | inl t ↦
      let same : r.id ≡ y = same_Some r.id y (sym (cond-true (p r.id) (Some r.id) (find p (states rs)) t) ∙ e) in
      let newest = arrival-newest rs r r.id (same_id_self r.id) in
      let below = arrival_is_below (r ∷ rs) n known in
      let equal = ap (arrival (r ∷ rs)) same in
      omega arith
  | inr f ↦
      let rest = sym (cond-false (p r.id) (Some r.id) (find p (states rs)) f) ∙ e in
      let other : IsFalse (same_id n r.id) = false_from_ne_true (same_id n r.id)
      (λ t. both_ways (p r.id) f (subst (λ z. IsTrue (p z)) (same_id-true n r.id t) passes)) in
      let old_y = arrival-before rs r y (known-isnt-newest rs r y g.0 (found-passes p (states rs) y rest).0) in
      let old_n = arrival-before rs r n other in
      let le = found-is-last rs g.1 p y n rest (known-before rs r n known other) passes in
      omega arith
]

module _ (table : Table) (rs : List Record) (ks : List StateId) (stands : Stands table rs ks) (last : StateId) (known : IsTrue (is_known rs last)) where
  -- a kept state is below the last commit exactly where it is below that one's stand-in
  pub below-stand-in : (x : StateId) → IsTrue (is_kept rs ks x) → is_above rs last x ≡ is_above rs (stand_in rs ks last) x
  below-stand-in x kept = (stands-in-well rs ks stands.dag stands.shared).tells last x known kept

  -- the last-arrived state below the last commit is a leaf
  newest-is_listed : IsTrue (is_among (last_below rs last) (leaves rs))
  newest-is_listed =
      let leaf = begins-at-leaves rs stands.dag last known in
      among-filter (is_leaf rs) (arrived rs) (last_below rs last) (known-is_arrived rs (last_below rs last) leaf.2) leaf.3

  newest-is_below : IsTrue (is_above rs last (last_below rs last))
  newest-is_below =
      let w = finds-passing (is_above rs last) (states rs) last known (above-reflexive rs last) in
      subst (λ z. IsTrue (is_above rs last z)) (sym (ap (λ o. unwrap_or o last) w.1)) (found-passes (is_above rs last) (states rs) w.0 w.1).1

  -- so some leaf is below it
  pub some-leaf : ((z : StateId) → IsTrue (is_among z (leaves rs)) → IsFalse (is_above rs last z)) → ⊥
  some-leaf none = both_ways (is_above rs last (last_below rs last)) (none (last_below rs last) newest-is_listed) newest-is_below

  -- where n is below it and no later leaf is, n is the last-arrived state below the last commit
  pub newest-found : (n : StateId) → IsTrue (is_kept rs ks n) → IsTrue (is_above rs (stand_in rs ks last) n) →
      ((z : StateId) → IsTrue (is_among z (leaves rs)) → arrival rs n < arrival rs z → IsFalse (is_above rs last z)) → n ≡ last_below rs last
  newest-found n kept_n above none =
      let w = finds-passing (is_above rs last) (states rs) last known (above-reflexive rs last) in
      let y = last_below rs last in
      let same : y ≡ w.0 = ap (λ o. unwrap_or o last) w.1 in
      let at = ap (arrival rs) same in
      let leaf = begins-at-leaves rs stands.dag last known in
      let known_n = (and_parts (is_known rs n) (not (is_among n ks)) kept_n).0 in
      let le = found-is-last rs (dag-grows rs stands.dag) (is_above rs last) w.0 n w.1 known_n (below-stand-in n kept_n ∙ above) in
      elim (cases_lt (arrival rs n) (arrival rs y)) [
        | inl lt ↦ not-both (is_above rs last y) newest-is_below (none y newest-is_listed lt)
        | inr ge ↦ arrivals-differ rs stands.dag n y known_n leaf.2 (omega arith)
      ]

use Rattle.std.proofs.Common.{◌≡◌, true, List, Some, IsTrue, map, take}
use Rattle.tardis_base.specs.declared.ids.StateId.{StateId}
use Rattle.tardis_base.specs.declared.records.Record.{Record}
use Rattle.tardis_base.specs.Ids.{is_among}
use Rattle.plain_dag.specs.Writers.{are_above}
use Rattle.plain_dag.specs.Conflicts.{latest_writers}
use Rattle.plain_dag.specs.Collection.{stand_in}
use Rattle.state_dag.specs.Table.{id_at}
use Rattle.record_store.specs.Stands.{StoreStands}
use Rattle.conflict_keys.proofs.joins.is_below_all.Given as goal

abbrev pub invariant-loop-state : goal.invariant-loop-state
invariant-loop-state l = (rs : List Record) (ks : List StateId) → StoreStands l.store rs ks → (xs : List StateId) → map (id_at l.store.table) l.states
    ≡ map (λ x. Some x) xs → (w : StateId) → IsTrue (is_among w (latest_writers rs l.key xs)) → id_at l.store.table l.lowest ≡ Some (stand_in rs ks w) →
    are_above rs (latest_writers rs l.key (take l.state-index xs)) w ≡ true

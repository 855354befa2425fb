use Rattle.std.proofs.Common.{◌≡◌, List, Some, IsTrue, IfSome, map, take}
use Rattle.tardis_base.specs.declared.ids.StateId.{StateId}
use Rattle.tardis_base.specs.declared.records.Record.{Record}
use Rattle.plain_dag.specs.Conflicts.{latest_writers}
use Rattle.state_dag.specs.Table.{id_at, is_slot}
use Rattle.record_store.specs.Stands.{StoreStands}
use Rattle.conflict_keys.specs.Joins.{IsChosen}
use Rattle.conflict_keys.proofs.joins.candidate.Given as goal

abbrev pub invariant-loop-state : goal.invariant-loop-state
invariant-loop-state l = record {
  slot : IfSome l.lowest (λ s. IsTrue (is_slot l.store.table s));
  chosen : (rs : List Record) (ks : List StateId) → StoreStands l.store rs ks → (xs : List StateId) → map (id_at l.store.table) l.states
      ≡ map (λ x. Some x) xs → IsChosen l.store.table rs ks (latest_writers rs l.key (take l.state-index xs)) l.lowest;
}

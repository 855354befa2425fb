use Rattle.std.proofs.Common.{◌≡◌, length, map, take, Some}
use Rattle.tardis_base.specs.declared.ids.StateId.{StateId}
use Rattle.state_dag.specs.Table.{id_at}
use Rattle.record_store.proofs.RecordStore.slots_of.Given as goal

abbrev pub invariant-loop-place : goal.invariant-loop-place
invariant-loop-place l = record {
  room : length l.slots ≡ 8;
  slots : map (id_at l.self-inside.dag) (take l.place l.slots) ≡ map (λ (x : StateId). Some x) (take l.place l.states);
}

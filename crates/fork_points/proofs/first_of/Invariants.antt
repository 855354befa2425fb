use Rattle.std.proofs.Common.{◌≡◌, ◌≤◌, List, Some, length, map, take}
use Rattle.tardis_base.specs.declared.ids.StateId.{StateId}
use Rattle.state_dag.specs.Table.{id_at}
use Rattle.fork_points.proofs.first_of.Given as goal

abbrev pub invariant-loop-slot : goal.invariant-loop-slot
invariant-loop-slot l = record {
  counted : length l.first ≡ l.slot-index;
  few : l.slot-index ≤ 256;
  front : (xs : List StateId) → map (id_at l.dag) l.slots ≡ map (λ x. Some x) xs → l.first ≡ take l.slot-index xs;
}

use Rattle.std.proofs.Common.{◌≡◌, ◌≤◌, not, filter, take, vec_len, vec_capacity}
use Rattle.state_dag.specs.Table.{arrival_at}
use Rattle.state_dag.specs.Grown.{is_slot_among}
use Rattle.state_dag.specs.Nodes.{table_of, Rise}
use Rattle.state_dag.proofs.slots.drop_slots.Given as goal

abbrev pub invariant-loop-slot : goal.invariant-loop-slot
invariant-loop-slot l = record {
  items : l.slots.items ≡ filter (λ s. not (is_slot_among s (take l.slot-index l.gone))) l.fn.slots.items;
  rise : Rise (arrival_at (table_of l.nodes)) l.slots.items;
  len : vec_len l.slots ≤ vec_len l.fn.slots;
  capacity : vec_capacity l.slots ≡ vec_capacity l.fn.slots;
}

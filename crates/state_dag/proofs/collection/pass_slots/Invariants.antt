use Rattle.std.proofs.Common.{◌≡◌, ◌++◌, map, take, drop, length}
use Rattle.state_dag.specs.Detached.{passed_on}
use Rattle.state_dag.proofs.collection.pass_slots.Given as goal

abbrev pub invariant-loop-place : goal.invariant-loop-place
invariant-loop-place l = record {
  count : length l.slots.items ≡ length l.fn.slots.items;
  items : l.slots.items ≡ map (passed_on l.gone l.heir) (take l.place l.fn.slots.items) ++ drop l.place l.fn.slots.items;
}

use Rattle.std.proofs.Common.{◌≡◌, false, take}
use Rattle.std.specs.List.{list_all, list_any}
use Rattle.state_dag.specs.Table.{is_slot_above}
use Rattle.fork_points.proofs.is_one_above_all.Given as goal

abbrev pub invariant-loop-slot : goal.invariant-loop-slot
invariant-loop-slot l = list_any (λ c. list_all (is_slot_above l.dag c) l.states) (take l.slot-index l.slots) ≡ false

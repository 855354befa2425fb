use Rattle.std.proofs.Common.{◌≡◌, true, take}
use Rattle.std.specs.List.{list_all}
use Rattle.state_dag.specs.Table.{is_slot_above}
use Rattle.branch_region.proofs.asked.is_above_all.Given as goal

abbrev pub invariant-loop-state : goal.invariant-loop-state
invariant-loop-state l = list_all (is_slot_above l.dag l.slot) (take l.state-index l.states) ≡ true

use Rattle.std.proofs.Common.{◌≡◌, take}
use Rattle.std.specs.List.{list_any, list_all}
use Rattle.state_dag.specs.Table.{is_slot_above}
use Rattle.branch_region.proofs.asked.is_above_part.Given as goal

abbrev pub invariant-loop-state : goal.invariant-loop-state
invariant-loop-state l = record {
  one : l.is_above_one ≡ list_any (is_slot_above l.dag l.slot) (take l.state-index l.states);
  all : l.is_above_all ≡ list_all (is_slot_above l.dag l.slot) (take l.state-index l.states);
}

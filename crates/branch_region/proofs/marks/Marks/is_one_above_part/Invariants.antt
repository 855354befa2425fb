use Rattle.std.proofs.Common.{◌≡◌, false, take}
use Rattle.std.specs.List.{list_any}
use Rattle.branch_region.specs.Marks.{is_part_marked}
use Rattle.branch_region.proofs.marks.Marks.is_one_above_part.Given as goal

abbrev pub invariant-loop-slot : goal.invariant-loop-slot
invariant-loop-slot l = list_any (is_part_marked l.self) (take l.slot-index l.slots) ≡ false

use Rattle.std.proofs.Common.{◌≡◌, false, take}
use Rattle.std.specs.List.{list_any}
use Rattle.branch_region.specs.Marks.{is_marked}
use Rattle.branch_region.proofs.marks.is_one_marked.Given as goal

abbrev pub invariant-loop-slot : goal.invariant-loop-slot
invariant-loop-slot l = list_any (is_marked l.marks) (take l.slot-index l.slots) ≡ false

use Rattle.std.proofs.Common.{ℕ, ◌<◌, get_or}
use Rattle.branch_region.proofs.marks.number_end.Given as goal

abbrev pub invariant-loop-slot : goal.invariant-loop-slot
invariant-loop-slot l = (j : ℕ) → j < l.slot-index → (get_or l.slot-items j (record { 0 = 0 })).0 < l.end

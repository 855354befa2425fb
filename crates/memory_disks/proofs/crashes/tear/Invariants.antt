use Rattle.std.proofs.Common.{◌≤◌, ℕ, List, length}
use Rattle.memory_disks.specs.Memory.{Steps, used_of, with_written}
use Rattle.memory_disks.proofs.crashes.tear.Given as goal

abbrev pub invariant-loop-kept : goal.invariant-loop-kept
invariant-loop-kept l = record {
  enough : used_of l.later ≤ length l.left;
  steps : (new : List ℕ) → Steps l.image.items (with_written l.later l.left) new → Steps l.fn.image.items (with_written l.calls l.written) new;
}

abbrev pub decreases-loop-kept : goal.decreases-loop-kept
decreases-loop-kept l = length l.later

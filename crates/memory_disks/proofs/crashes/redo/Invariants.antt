use Rattle.std.proofs.Common.{◌≡◌, ◌≤◌, drop, length}
use Rattle.memory_disks.specs.Memory.{used_of, with_written}
use Rattle.memory_disks.specs.Crashes.{read_after_all}
use Rattle.memory_disks.proofs.crashes.redo.Given as goal

abbrev pub invariant-loop-kept : goal.invariant-loop-kept
invariant-loop-kept l = record {
  enough : used_of l.later ≤ length l.left;
  same : read_after_all l.image.items (with_written l.later l.left) ≡ read_after_all l.fn.image.items (with_written l.calls l.written);
  rest : drop (used_of l.later) l.left ≡ drop (used_of l.calls) l.written;
}

abbrev pub decreases-loop-kept : goal.decreases-loop-kept
decreases-loop-kept l = length l.later

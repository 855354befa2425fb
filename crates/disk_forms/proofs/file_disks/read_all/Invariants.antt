use Rattle.std.proofs.Common.{◌-◌, ◌≤◌, length}
use Rattle.disk_forms.proofs.file_disks.read_all.Given as goal

abbrev pub invariant-loop-done : goal.invariant-loop-done
invariant-loop-done l = record { within : l.done ≤ length l.buf }

abbrev pub decreases-loop-done : goal.decreases-loop-done
decreases-loop-done l = length l.buf - l.done

use Rattle.std.proofs.Common.{◌≤◌, drop, length}
use Rattle.memory_disks.specs.Crashes.{HasNoSync}
use Rattle.memory_disks.proofs.crashes.count_to_sync.Given as goal

abbrev pub invariant-loop-count : goal.invariant-loop-count
invariant-loop-count l = record { within : l.count ≤ length l.calls; since : HasNoSync (drop l.count l.calls) }

abbrev pub decreases-loop-count : goal.decreases-loop-count
decreases-loop-count l = l.count

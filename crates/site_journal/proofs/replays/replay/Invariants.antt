use Rattle.std.proofs.Common.{◌-◌, ◌≤◌, ℕ, List, length}
use Rattle.disk_store.specs.Disks.{AsHonest}
use Rattle.site_journal.specs.Moments.{WasRead}
use Rattle.site_journal.proofs.Replaying.{Progress}
use Rattle.tardis_base.specs.Sizes.{longest_frame}
use Rattle.site_journal.proofs.replays.replay.Given as goal

abbrev pub invariant-loop-count : goal.invariant-loop-count
invariant-loop-count g l = record {
  progress : (done : List (List ℕ)) × Progress g.M.Machine g.K.Disk l.fn.machine
      l.machine l.disk l.entries l.place l.size done;
  read : g.K.Disk.honest l.fn.disk → WasRead g.K.Disk l.fn.disk l.disk;
  honest : AsHonest g.K.Disk.honest l.fn.disk l.disk;
  later : g.K.Disk.faults l.fn.disk ≤ g.K.Disk.faults l.disk;
  within : l.place ≤ l.size;
  room : longest_frame ≤ length l.body;
}

abbrev pub decreases-loop-count : goal.decreases-loop-count
decreases-loop-count g l = l.size - l.place

use Rattle.std.proofs.Common.{◌≡◌, ◌-◌, ◌≤◌, ℕ, List, length}
use Rattle.disk_store.specs.Disks.{AsHonest}
use Rattle.log_groups.specs.declared.fronts.LogFront.{LogFront}
use Rattle.site_log.specs.Files.{IsAtRest}
use Rattle.site_log.proofs.Growing.{Growing}
use Rattle.site_log.proofs.appends.grow.Given as goal

abbrev pub invariant-loop-at : goal.invariant-loop-at
invariant-loop-at g l = record {
  growing : g.K.Disk.honest l.fn.disk → (front : LogFront) (bodies : List (List ℕ)) (place : ℕ) → IsAtRest g.K.Disk l.fn.disk front bodies place l.fn.room
      → Growing g.K.Disk l.fn.disk l.disk front bodies l.at;
  size : g.K.Disk.honest l.disk → l.at ≡ length (g.K.Disk.reads l.disk);
  honest : AsHonest g.K.Disk.honest l.fn.disk l.disk;
  later : g.K.Disk.faults l.fn.disk ≤ g.K.Disk.faults l.disk;
}

abbrev pub decreases-loop-at : goal.decreases-loop-at
decreases-loop-at g l = l.wanted - l.at

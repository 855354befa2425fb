-- What becomes of a group, a piece and a turn of a durable run.
use Rattle.std.specs.Prelude.{◌≡◌, ℕ, ◌≤◌, List, [], Option}
use Rattle.tardis_base.specs.Plain.{PlainMachine}
use Rattle.tardis_io.specs.declared.statuses.Status.{Status}
use Rattle.tardis_io.specs.declared.statuses.Status.TheVariants.{DiskFault, WriteFault, ReadFault}
use Rattle.tardis_io.specs.Faults.{Rose}
use Rattle.frame_cut.specs.Frames.{IsPartial, IsLong}
use Rattle.disk_store.specs.Disks.{AsHonest}
use Rattle.site_run.specs.Endings.{Outcome, IsRunEnd}
use Rattle.durable_run.specs.declared.groups.DeviceFault.{DeviceFault}
use Rattle.durable_run.specs.declared.groups.DeviceFault.TheVariants.{Disk, Output}
use Rattle.durable_run.specs.declared.pieces.Remainder.{Remainder}
use Rattle.durable_run.specs.declared.pieces.Remainder.TheVariants.{Part, Long}
use Rattle.durable_run.specs.declared.buffers.Buffers.{Buffers}
use Rattle.durable_run.specs.Groups.{Start}
use Rattle.durable_run.specs.Ends.{as_in_midst, Durable}
use Rattle.tardis_io.specs.declared.streams.Source.{Ghosts as ASource}
use Rattle.tardis_io.specs.declared.streams.Sink.{Ghosts as ASink}
use Rattle.durable_run.specs.Buffering.{most_gathered}
use Rattle.disk_store.specs.declared.disks.Disk.{Ghosts as ADisk}

-- from old to new a disk went on: its count doesn't fall, and the one is honest where the other is
pub record Went {K : Type 0} (k : ADisk K) (old new : K) : Type 0 where
  pub later : k.faults old ≤ k.faults new
  pub as_honest : AsHonest k.honest old new

-- the buffers between two pieces
pub record AreReady (b : Buffers) : Type 0 where
  pub partial : IsPartial b.cutter
  pub gathered : b.gathered.bytes ≡ []
  pub room : b.gathered.room ≡ most_gathered

-- these bytes are what the answer says of them
abbrev pub IsBehind : Remainder → List ℕ → Type 0
IsBehind Part rest = IsPartial rest
IsBehind (Long len) rest = IsLong rest len

module _ {K : Type 0} where
  abbrev pub disk_stopped : DeviceFault K → K
  disk_stopped (Disk disk) = disk
  disk_stopped (Output disk) = disk

  -- the fault that stopped the run was counted
  abbrev pub StopRose : {O : Type 0} → ADisk K → ASink O → K → O → O → DeviceFault K → Type 0
  StopRose k o disk old new (Disk now) = Rose (k.faults disk) (k.faults now)
  StopRose k o disk old new (Output now) = Rose (o.faults old) (o.faults new)

  -- a disk or a sink stopped the run
  pub record Stopped {O : Type 0} (k : ADisk K) (o : ASink O) (disk : K) (old new : O) (stop : DeviceFault K) : Type 0 where
    pub went : Went k disk (disk_stopped stop)
    pub rose : StopRose k o disk old new stop

  -- a run ended so, and the fault that the status tells of was counted
  pub record Ended {I O : Type 0} (k : ADisk K) (i : ASource I) (o : ASink O) (disk now : K) (input input_now : I)
      (output output_now : O) (status : Status) : Type 0 where
    pub end : IsRunEnd (as_in_midst status)
    pub went : Went k disk now
    pub disk_rose : status ≡ DiskFault → Rose (k.faults disk) (k.faults now)
    pub read_rose : status ≡ ReadFault → Rose (i.faults input) (i.faults input_now)
    pub write_rose : status ≡ WriteFault → Rose (o.faults output) (o.faults output_now)

module _ {S K : Type 0} (plain : PlainMachine S) (k : ADisk K) where
  -- what the bodies came to that were answered when the run was stopped
  abbrev pub IsStop : Start S K → DeviceFault K → Option (List ℕ) → List (List ℕ) → Type 0
  IsStop at (Disk disk) given bodies = Durable plain k DiskFault at disk given bodies
  IsStop at (Output disk) given bodies = Durable plain k WriteFault at disk given bodies

  -- from this start a run over what was left at first ended so
  abbrev pub EndsSo : Start S K → Status → K → Option (List ℕ) → List ℕ → List ℕ → Type 0
  EndsSo at status disk given first left = Outcome (as_in_midst status) (λ s. s ≡ at.entries)
      (λ s bodies. Durable plain k status
      (record { entries = s; state = at.state; disk = at.disk; given = at.given; most = at.most }) disk given bodies) first left

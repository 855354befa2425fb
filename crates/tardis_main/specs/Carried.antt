-- What carrying out words comes to that have a form.
use Rattle.std.specs.Prelude.{◌≡◌, ℕ, List}
use Rattle.tardis_io.specs.Told.{WhileTold}
use Rattle.tardis_io.specs.declared.statuses.Status.{Status}
use Rattle.tardis_io.specs.declared.statuses.Status.TheVariants.{NoMemory, ReadFault, WriteFault, GateFault, DialFault, DiskFault}
use Rattle.tardis_io.specs.declared.streams.Source.{Ghosts as ASource}
use Rattle.tardis_io.specs.declared.streams.Sink.{Ghosts as ASink}
use Rattle.tardis_io.specs.declared.duplexes.Duplex.{Ghosts as ADuplex}
use Rattle.tardis_io.specs.declared.gates.Gate.{Ghosts as AGate}
use Rattle.tardis_io.specs.declared.gates.Dial.{Ghosts as ADial}
use Rattle.disk_store.specs.declared.disks.Disk.{Ghosts as ADisk}
use Rattle.disk_store.specs.declared.stores.Store.{Ghosts as AStore}
use Rattle.command_words.specs.Forms.{Form, AsRun, AsShell, AsAudit, AsWorld, AsServe, AsLoad, AsAuto, AsExport, AsImport, AsDurable}
use Rattle.command_words.specs.Places.{program_limits}
use Rattle.plain_site.specs.Site.{Site}
use Rattle.plain_world.specs.Worlds.{opening_world, world_limits}
use Rattle.world_core.specs.Runs.{WorldFrom}
use Rattle.load_run.specs.Ends.{WritesLine, IsLoadEnd}
use Rattle.load_run.specs.Lines.{load_line}
use Rattle.auto_run.specs.Outcomes.{AutoFrom}
use Rattle.durable_run.specs.Commands.{DurableEnds}
use Rattle.site_commands.specs.Runs.{RunFrom, ShellFrom, AuditFrom}
use Rattle.site_commands.specs.Ends.{CausedBy, FramesEnd, LinesEnd, ServerEnds}
use Rattle.tardis_main.specs.Program.{ExportEnds, ImportEnds, site_at, work_of}

-- a command over input and output ended so, and touched nothing else
pub record Streamed {G D S : Type 0} (gate gate_now : G) (dial dial_now : D) (store store_now : S) (Ends : Type 0) : Type 0 where
  pub ends : Ends
  pub same_gate : gate_now ≡ gate
  pub same_dial : dial_now ≡ dial
  pub same_store : store_now ≡ store

-- a server ended so, and neither read its input nor opened a file
pub record Served {I S : Type 0} (old new : I) (store store_now : S) (Ends : Type 0) : Type 0 where
  pub ends : Ends
  pub same_input : new ≡ old
  pub same_store : store_now ≡ store

-- a site in a file ended so; nobody was let in or called
pub record Stored {G D : Type 0} (gate gate_now : G) (dial dial_now : D) (Ends : Type 0) : Type 0 where
  pub ends : Ends
  pub same_gate : gate_now ≡ gate
  pub same_dial : dial_now ≡ dial

-- no count of faults fell, and the status tells only of a fault that was counted: of reading, writing, the gate, the dial or the disk
pub record AreCaused (reads reads_now writes writes_now gates gates_now dials dials_now disks disks_now : ℕ) (status : Status) : Type 0 where
  pub read : CausedBy ReadFault reads reads_now status
  pub write : CausedBy WriteFault writes writes_now status
  pub gate : CausedBy GateFault gates gates_now status
  pub dial : CausedBy DialFault dials dials_now status
  pub disk : CausedBy DiskFault disks disks_now status

-- over these devices, from what they were before to what they are now, with this status
module _ {M L G X D O I K S : Type 0} (opened : M → Site) (i : ASource I) (o : ASink O) (g : AGate G L) (l : ADuplex L) (gives : ASink L) (d : ADial D X)
    (x : ADuplex X) (dialled : ASink X) (st : AStore S K) (k : ADisk K) (old new : I) (before after : O) (gate gate_now : G) (dial dial_now : D) (store store_now : S)
    (words : List (List ℕ)) (status : Status) where
  -- what the words of this form came to, and which devices stayed as they were
  abbrev pub CarriedOut : Form → Type 0
  CarriedOut (AsRun place) = Streamed gate gate_now dial dial_now store store_now (FramesEnd i.left i.faults o.faults old new before after (RunFrom (site_at place) status (o.given before) (o.given after)) status)
  CarriedOut (AsShell place) = Streamed gate gate_now dial dial_now store store_now (LinesEnd i.left i.faults o.faults old new before after (ShellFrom (site_at place) status (o.given before) (o.given after)) status)
  CarriedOut (AsAudit place) = Streamed gate gate_now dial dial_now store store_now (FramesEnd i.left i.faults o.faults old new before after (AuditFrom (site_at place) status (o.given before) (o.given after)) status)
  CarriedOut (AsWorld sites) = Streamed gate gate_now dial dial_now store store_now
      (FramesEnd i.left i.faults o.faults old new before after (WorldFrom (opening_world (world_limits sites)) status (o.given before) (o.given after)) status)
  CarriedOut (AsServe plan) = Served old new store store_now
      (ServerEnds opened g l gives d x dialled o gate gate_now dial dial_now before after (site_at plan.place) (program_limits plan.place.sites).max_trail (work_of plan) status)
  CarriedOut (AsLoad start steps) = Streamed gate gate_now dial dial_now store store_now
      (WhileTold (o.given before) (o.given after) (WritesLine status (load_line start steps)) × IsLoadEnd status × (status ≡ NoMemory → after ≡ before) × (new ≡ old))
  CarriedOut (AsAuto place rules) = Streamed gate gate_now dial dial_now store store_now
      (LinesEnd i.left i.faults o.faults old new before after (AutoFrom (site_at place) rules status (o.given before) (o.given after)) status)
  CarriedOut (AsExport place state) = Streamed gate gate_now dial dial_now store store_now (ExportEnds i o old new before after words status (site_at place) state)
  CarriedOut AsImport = Streamed gate gate_now dial dial_now store store_now (ImportEnds i o old new before after words status)
  CarriedOut (AsDurable place path) = Stored gate gate_now dial dial_now
      (DurableEnds st k i o path store store_now old new before after (site_at place) (program_limits place.sites).max_trail status)

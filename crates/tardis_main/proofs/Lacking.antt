-- What words came to for which there was no memory: nothing was done.
use Rattle.std.proofs.Common.{◌≡◌, ℕ, List, Some, refl}
use Rattle.tardis_io.specs.declared.statuses.Status.TheVariants.{NoMemory}
use Rattle.tardis_io.specs.declared.streams.Source.{Ghosts as ASource}
use Rattle.tardis_io.specs.declared.streams.Sink.{Ghosts as ASink}
use Rattle.tardis_io.specs.declared.duplexes.Duplex.{Ghosts as ADuplex}
use Rattle.tardis_io.specs.declared.gates.Gate.{Ghosts as AGate}
use Rattle.tardis_io.specs.declared.gates.Dial.{Ghosts as ADial}
use Rattle.disk_store.specs.declared.disks.Disk.{Ghosts as ADisk}
use Rattle.disk_store.specs.declared.stores.Store.{Ghosts as AStore}
use Rattle.command_words.specs.Forms.{Form, form, AsRun, AsShell, AsAudit, AsWorld, AsServe, AsLoad, AsAuto, AsExport, AsImport, AsDurable}
use Rattle.command_words.specs.Laws.{RunsAtASite, ShellsAtASite, AuditsAtASite, AutosAtASite, ExportsAtASite}
use Rattle.command_words.specs.declared.commands.Place.{Place}
use Rattle.command_words.specs.Places.{IsPlace, program_limits}
use Rattle.plain_site.specs.Site.{Site}
use Rattle.plain_site.specs.Sound.{IsSound}
use Rattle.plain_world.specs.Worlds.{opening_world, world_limits}
use Rattle.world_core.specs.Runs.{WorldFrom}
use Rattle.load_run.specs.Ends.{WritesLine}
use Rattle.load_run.specs.Lines.{load_line}
use Rattle.tardis_io.proofs.Told.{same}
use Rattle.auto_run.specs.Outcomes.{AutoFrom}
use Rattle.auto_run.proofs.AutoRuns.{no_auto}
use Rattle.durable_run.proofs.Stores.{no_durable}
use Rattle.site_commands.specs.Runs.{RunFrom, ShellFrom, AuditFrom}
use Rattle.site_commands.proofs.FrameRuns.{opens, no_run}
use Rattle.site_commands.proofs.LineRuns.{no_shell, no_audit}
use Rattle.site_commands.proofs.NoMemory.{no_frames, no_lines}
use Rattle.tardis_main.specs.Program.{site_at, work_of}
use Rattle.tardis_main.specs.Carried.{CarriedOut}
use Rattle.tardis_main.proofs.Unserved.{no_server}
use Rattle.tardis_main.proofs.Unexported.{no_export, no_import}
use Rattle.tardis_main.proofs.WorldRuns.{no_world}
use Rattle.tardis_main.proofs.Words.{limits_hold}

-- the site that opens at a place is sound
sound_at : (place : Place) → IsPlace place → IsSound (site_at place)
sound_at place is = opens (program_limits place.sites) place.site (limits_hold place.sites is.some is.most) is.first is.last

module _ {M L G X D O I K S : Type 0} (opened : M → Site) (i : ASource I) (o : ASink O) (g : AGate G L) (l : ADuplex L) (gives : ASink L) (d : ADial D X)
    (x : ADuplex X) (dialled : ASink X) (st : AStore S K) (k : ADisk K) (input : I) (output : O) (gate : G) (dial : D) (store : S) (words : List (List ℕ))
    (runs : RunsAtASite) (shells : ShellsAtASite) (audits : AuditsAtASite) (autos : AutosAtASite) (exports : ExportsAtASite) where
  pub nothing_done : (f : Form) → form words ≡ Some f
      → CarriedOut opened i o g l gives d x dialled st k input input output output gate gate dial dial store store words NoMemory f
  nothing_done (AsRun place) are = let old = o.given output in record {
    ends = no_frames i.left i.faults o.faults input output (RunFrom (site_at place) NoMemory old old)
        (λ y. no_run (site_at place) old y (sound_at place (runs words place are)));
    same_gate = refl;
    same_dial = refl;
    same_store = refl;
  }
  nothing_done (AsShell place) are = let old = o.given output in record {
    ends = no_lines i.left i.faults o.faults input output (ShellFrom (site_at place) NoMemory old old)
        (λ y. no_shell (site_at place) old y (sound_at place (shells words place are)));
    same_gate = refl;
    same_dial = refl;
    same_store = refl;
  }
  nothing_done (AsAudit place) are = let old = o.given output in record {
    ends = no_frames i.left i.faults o.faults input output (AuditFrom (site_at place) NoMemory old old)
        (λ y. no_audit (site_at place) old y (sound_at place (audits words place are)));
    same_gate = refl;
    same_dial = refl;
    same_store = refl;
  }
  nothing_done (AsWorld sites) are = let old = o.given output in let world = opening_world (world_limits sites) in record {
    ends = no_frames i.left i.faults o.faults input output (WorldFrom world NoMemory old old) (λ y. no_world world old y);
    same_gate = refl;
    same_dial = refl;
    same_store = refl;
  }
  nothing_done (AsServe plan) are = record {
    ends = no_server opened g l gives d x dialled o gate dial output (site_at plan.place) (program_limits plan.place.sites).max_trail (work_of plan);
    same_input = refl;
    same_store = refl;
  }
  nothing_done (AsLoad start steps) are = record {
    ends = (same (o.given output) (WritesLine NoMemory (load_line start steps)) (λ y. refl), tt, (λ e. refl), refl);
    same_gate = refl;
    same_dial = refl;
    same_store = refl;
  }
  nothing_done (AsAuto place rules) are = let old = o.given output in record {
    ends = no_lines i.left i.faults o.faults input output (AutoFrom (site_at place) rules NoMemory old old)
        (λ y. no_auto (site_at place) rules old y (sound_at place (autos words place rules are)));
    same_gate = refl;
    same_dial = refl;
    same_store = refl;
  }
  nothing_done (AsExport place state) are = record {
    ends = no_export i o input output words (site_at place) state (sound_at place (exports words place state are));
    same_gate = refl;
    same_dial = refl;
    same_store = refl;
  }
  nothing_done AsImport are = record { ends = no_import i o input output words; same_gate = refl; same_dial = refl; same_store = refl }
  nothing_done (AsDurable place path) are = record {
    ends = no_durable st k i o path store input output (site_at place) (program_limits place.sites).max_trail;
    same_gate = refl;
    same_dial = refl;
  }

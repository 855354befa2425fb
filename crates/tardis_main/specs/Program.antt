-- What each command of the program does, by its words.
use Rattle.std.specs.Prelude.{◌≡◌, ℕ, ◌<◌, false, List, length}
use Rattle.tardis_io.specs.declared.statuses.Status.TheVariants.{NoMemory}
use Rattle.tardis_io.specs.Told.{WhileTold}
use Rattle.load_run.specs.Ends.{WritesLine, IsLoadEnd}
use Rattle.load_run.specs.Lines.{load_line}
use Rattle.tardis_io.specs.declared.statuses.Status.{Status}
use Rattle.tardis_io.specs.declared.duplexes.Duplex.{Ghosts as ADuplex}
use Rattle.tardis_io.specs.declared.gates.Gate.{Ghosts as AGate}
use Rattle.tardis_io.specs.declared.gates.Dial.{Ghosts as ADial}
use Rattle.plain_site.specs.Site.{Site, opening}
use Rattle.plain_world.specs.Worlds.{opening_world, world_limits}
use Rattle.world_core.specs.Runs.{WorldFrom}
use Rattle.command_words.specs.declared.commands.Place.{Place}
use Rattle.command_words.specs.Forms.{Serving}
use Rattle.command_words.specs.Places.{program_limits}
use Rattle.serve_run.specs.Serving.{Workload}
use Rattle.rule_list.specs.declared.rules.PrefixRule.{PrefixRule}
use Rattle.tardis_base.specs.declared.ids.StateId.{StateId}
use Rattle.branch_export.specs.Imported.{Imported, ImportsAs, IsImportEnd, has_given}
use Rattle.export_run.specs.Exporting.{ExportOutcome, ExportEndsAs, IsExportEnd}
use Rattle.frame_cut.specs.Frames.{IsCut}
use Rattle.site_run.specs.Endings.{most_taken}
use Rattle.plain_site.specs.Sound.{IsSound}
use Rattle.tardis_io.specs.declared.streams.Source.{Ghosts as ASource}
use Rattle.tardis_io.specs.declared.streams.Sink.{Ghosts as ASink}
use Rattle.disk_store.specs.declared.disks.Disk.{Ghosts as ADisk}
use Rattle.disk_store.specs.declared.stores.Store.{Ghosts as AStore}
use Rattle.durable_run.specs.Commands.{DurableEnds}
use Rattle.auto_run.specs.Outcomes.{AutoFrom}
use Rattle.site_commands.specs.Runs.{RunFrom, ShellFrom, AuditFrom}
use Rattle.site_commands.specs.Ends.{UnlessFaulty, FramesEnd, LinesEnd, ServerEnds}
use Rattle.tardis_main.specs.Words.{AreRun, AreShell, AreAudit, AreWorld, AreLoad, AreServe, AreAuto, AreExport, AreImport, AreDurable}

-- the plain site that opens at this place, with the program's limits
abbrev pub site_at : Place → Site
site_at place = opening (program_limits place.sites) place.site

module _ {I O : Type 0} (i : ASource I) (o : ASink O)
    (old new : I) (before after : O) (words : List (List ℕ)) (status : Status) where
  -- words of `run`: frames are answered by the site of their place, which opens
  abbrev pub Runs : Type 0
  Runs = (place : Place) → AreRun words place
      → FramesEnd i.left i.faults o.faults old new before after (RunFrom (site_at place) status (o.given before) (o.given after)) status

  -- words of `shell`: lines are answered by it
  abbrev pub Shells : Type 0
  Shells = (place : Place) → AreShell words place
      → LinesEnd i.left i.faults o.faults old new before after (ShellFrom (site_at place) status (o.given before) (o.given after)) status

  -- words of `audit`: what frames ask of it, and what it replies, is told in lines
  abbrev pub Audits : Type 0
  Audits = (place : Place) → AreAudit words place
      → FramesEnd i.left i.faults o.faults old new before after (AuditFrom (site_at place) status (o.given before) (o.given after)) status

  -- words of `auto`: lines are answered by it, and its leaves are merged by these rules where a line asks for that
  abbrev pub Autos : Type 0
  Autos = (place : Place) (rules : List PrefixRule) → AreAuto words place rules
      → LinesEnd i.left i.faults o.faults old new before after (AutoFrom (site_at place) rules status (o.given before) (o.given after)) status

  -- How an export of this state ends, from this plain site. Over what was left of its input at first, this outcome was had. Where
  -- no fault came and the input is short enough, its one cut and the site behind it decide the status, unless there was no memory.
  pub record ExportEnds (site : Site) (state : StateId) : Type 0 where
    pub outcome : WhileTold (i.left old) (i.left new) (ExportOutcome status state (λ s. s ≡ site) IsSound (o.given before) (o.given after))
    pub exact : WhileTold (i.left old) (i.left new) (λ first now. (all : List (List ℕ)) (rest : List ℕ)
        → IsCut first all rest → length first < most_taken → UnlessFaulty i.left i.faults o.faults old new before after (ExportEndsAs state rest status))
    pub end : IsExportEnd state status
    pub nothing : has_given status ≡ false → after ≡ before

  -- words of `export`: frames are asked of the site of their place, and then what the state holds is written
  abbrev pub Exports : Type 0
  Exports = (place : Place) (state : StateId) → AreExport words place state → ExportEnds (site_at place) state

  -- How an import ends, likewise; its bytes decide.
  pub record ImportEnds : Type 0 where
    pub outcome : WhileTold (i.left old) (i.left new) (Imported status (o.given before) (o.given after))
    pub exact : WhileTold (i.left old) (i.left new) (λ first now. length first < most_taken
        → UnlessFaulty i.left i.faults o.faults old new before after (ImportsAs first status))
    pub end : IsImportEnd status
    pub nothing : has_given status ≡ false → after ≡ before

  -- words of `import`: an export is read, and the frames of its script are written
  abbrev pub Imports : Type 0
  Imports = AreImport words → ImportEnds

  -- words of `world`: frames are answered by a world of so many sites, which opens
  abbrev pub Worlds : Type 0
  Worlds = (sites : ℕ) → AreWorld words sites
      → FramesEnd i.left i.faults o.faults old new before after (WorldFrom (opening_world (world_limits sites)) status (o.given before) (o.given after)) status

  -- words of `load`: the line of the script is written, or a front of it, or nothing where memory was wanting; nothing is read
  abbrev pub Loads : Type 0
  Loads = (start steps : ℕ) → AreLoad words start steps
      → WhileTold (o.given before) (o.given after) (WritesLine status (load_line start steps)) × IsLoadEnd status × (status ≡ NoMemory → after ≡ before)
      × (new ≡ old)

-- what these words of `serve` ask for
abbrev pub work_of : Serving → Workload
work_of plan = record { links = plan.links; peers = plan.peers; rounds = plan.rounds; tidy = plan.tidy }

module _ {M L G X D O : Type 0} (opened : M → Site) (g : AGate G L) (l : ADuplex L) (gives : ASink L) (d : ADial D X) (x : ADuplex X) (dialled : ASink X) (o : ASink O)
    (gate gate_now : G) (dial dial_now : D) (before after : O) (words : List (List ℕ)) (status : Status) where
  -- words of `serve`: links are served by the site of their place, which opens, as many as they say, the rounds are made that
  -- they say, and the trail is written
  abbrev pub Serves : Type 0
  Serves = (plan : Serving) → AreServe words plan
      → ServerEnds opened g l gives d x dialled o gate gate_now dial dial_now before after (site_at plan.place) (program_limits plan.place.sites).max_trail (work_of plan) status

module _ {I O K S : Type 0} (i : ASource I) (o : ASink O) (st : AStore S K) (k : ADisk K) (store store_now : S) (old new : I) (before after : O)
    (words : List (List ℕ)) (status : Status) where
  -- words of `durable`: frames are answered by the site of their place, which opens and then answered the entries of the journal
  -- on the disk at their path; a reply is written once its entry is on the disk
  abbrev pub Durables : Type 0
  Durables = (place : Place) (path : List ℕ) → AreDurable words place path
      → DurableEnds st k i o path store store_now old new before after
      (site_at place) (program_limits place.sites).max_trail status

-- How a site's commands end: what was read and written, what the status says, and what stays as it was.
use Rattle.std.specs.Prelude.{◌≡◌, ℕ, ◌<◌, ◌≤◌, ◌⊎◌, Bool, true, false, ◌||◌, List, length, Option, Result, Ok, Err, nat_lt, if◌then◌else◌}
use Rattle.tardis_io.specs.declared.statuses.Status.{Status}
use Rattle.tardis_io.specs.declared.statuses.Status.TheVariants.{Ok as Well, WriteFault, NoMemory, GateFault, DialFault}
use Rattle.tardis_io.specs.declared.faults.WriteFault.{WriteFault as NotWritten}
use Rattle.tardis_io.specs.Told.{WhileTold}
use Rattle.tardis_io.specs.Faults.{Rose}
use Rattle.tardis_io.specs.declared.streams.Sink.{Ghosts as ASink}
use Rattle.tardis_io.specs.declared.duplexes.Duplex.{Ghosts as ADuplex}
use Rattle.tardis_io.specs.declared.gates.Gate.{Ghosts as AGate}
use Rattle.tardis_io.specs.declared.gates.Dial.{Ghosts as ADial}
use Rattle.tardis_base.specs.declared.faults.NoMemory.{NoMemory as OutOfMemory}
use Rattle.site_sync.specs.declared.ends.Rounds.{Rounds}
use Rattle.frame_cut.specs.Frames.{IsCut}
use Rattle.line_cut.specs.Lines.{IsCut as AreLines}
use Rattle.site_run.specs.Endings.{EndsAs, IsRunEnd, most_taken}
use Rattle.site_run.specs.Endings.{IsLineEnd, LinesEndAs}
use Rattle.serve_pool.specs.declared.ends.PoolEnd.{PoolEnd}
use Rattle.serve_pool.specs.declared.ends.PoolEnd.TheVariants.{Done as AllServed, GateFault as NextFailed}
use Rattle.serve_run.specs.declared.endings.ServeEnd.{ServeEnd}
use Rattle.serve_run.specs.declared.endings.ServeEnd.TheVariants.{NotBound, NotMade, Served}
use Rattle.serve_run.specs.Serving.{Workload, ServeOutcome}
use Rattle.plain_site.specs.Site.{Site}
use Rattle.plain_site.specs.Step.{site_machine}

-- a device's count of faults never falls, and the status that tells of its fault comes only where it rose
pub record CausedBy (fault : Status) (before now : ℕ) (status : Status) : Type 0 where
  pub later : before ≤ now
  pub cause : status ≡ fault → Rose before now

module _ {I O : Type 0} (left : I → Option (List ℕ)) (reads : I → ℕ) (writes : O → ℕ) (old new : I) (before after : O) where
  -- P holds, unless reading or writing counted a fault
  abbrev pub UnlessFaulty : Type 0 → Type 0
  UnlessFaulty P = (Rose (reads old) (reads new) → ⊥) → (Rose (writes before) (writes after) → ⊥) → P

  -- How a command over frames ends. Over what was left of its input at first, this outcome was had. Where no fault came and
  -- the input is short enough, its one cut decides the status, unless there was no memory. With no memory nothing was read
  -- or written.
  pub record FramesEnd (From : List ℕ → List ℕ → Type 0) (status : Status) : Type 0 where
    pub outcome : WhileTold (left old) (left new) From
    pub exact : WhileTold (left old) (left new) (λ first now. (all : List (List ℕ)) (rest : List ℕ)
        → IsCut first all rest → length first < most_taken → UnlessFaulty (EndsAs rest status))
    pub end : IsRunEnd status
    pub nothing : status ≡ NoMemory → (new ≡ old) × (after ≡ before)

  -- how a command over lines ends, likewise
  pub record LinesEnd (From : List ℕ → List ℕ → Type 0) (status : Status) : Type 0 where
    pub outcome : WhileTold (left old) (left new) From
    pub exact : WhileTold (left old) (left new) (λ first now. (all : List (List ℕ)) (rest : List ℕ)
        → AreLines first all rest → length first < most_taken → UnlessFaulty (LinesEndAs rest status))
    pub end : IsLineEnd status
    pub nothing : status ≡ NoMemory → (new ≡ old) × (after ≡ before)

-- the rounds had no memory for their buffers, for an exchange, or for a step of the upkeep
abbrev pub rounds_lack_memory : Result Rounds OutOfMemory → Bool
rounds_lack_memory (Err fault) = true
rounds_lack_memory (Ok n) = nat_lt 0 n.memory

-- an exchange found no link to its peer
abbrev pub has_dial_fault : Result Rounds OutOfMemory → Bool
has_dial_fault (Err fault) = false
has_dial_fault (Ok n) = nat_lt 0 n.dial

-- the status of a server that served, where there was memory: taking links comes first, then writing the trail, then calling
-- peers
abbrev pub status_served : PoolEnd → Result (Unit {0}) NotWritten → Bool → Status
status_served NextFailed written not_called = GateFault
status_served AllServed (Err fault) not_called = WriteFault
status_served AllServed (Ok done) true = DialFault
status_served AllServed (Ok done) false = Well

-- The status of a server that ended so. Before all else comes that it couldn't listen, and then want of memory, for the lock,
-- for a link or for the rounds.
abbrev pub status_after : ServeEnd → Status
status_after NotBound = GateFault
status_after NotMade = NoMemory
status_after (Served s) = if nat_lt 0 s.unserved || rounds_lack_memory s.rounds then NoMemory else status_served s.gate s.written (has_dial_fault s.rounds)

module _ {M L G X D O : Type 0} (opened : M → Site) (g : AGate G L) (l : ADuplex L) (gives : ASink L) (d : ADial D X) (x : ADuplex X) (dialled : ASink X)
    (o : ASink O) (gate gate_now : G) (dial dial_now : D) (before after : O) where
  -- How a server with this work ends, whose lock opens with this plain site and whose trail has room for so many bytes. Its
  -- status is that of its end. Where neither the gate nor the dial nor the output counted a fault, all is well or there was
  -- no memory.
  pub record ServerEnds (site : Site) (max_trail : ℕ) (work : Workload) (status : Status) : Type 0 where
    pub end : ServeEnd
    pub outcome : ServeOutcome opened site_machine l.left gives.given l.take_faults gives.faults x.left dialled.given x.take_faults dialled.faults
        d.told d.faults site max_trail g.told g.faults o.given o.faults work gate gate_now dial dial_now before after end
    pub judged : status ≡ status_after end
    pub complete : (Rose (g.faults gate) (g.faults gate_now) → ⊥) → (Rose (d.faults dial) (d.faults dial_now) → ⊥)
        → (Rose (o.faults before) (o.faults after) → ⊥) → (status ≡ Well) ⊎ (status ≡ NoMemory)

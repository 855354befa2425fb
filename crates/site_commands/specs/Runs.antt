-- What a run of the program does, and a shell and an audit.
use Rattle.std.specs.Prelude.{◌≡◌, ℕ, List, Option, map}
use Rattle.tardis_io.specs.declared.statuses.Status.{Status}
use Rattle.frame_cut.specs.Events.{event_of}
use Rattle.site_run.specs.Machines.{Answered}
use Rattle.site_run.specs.Endings.{Outcome, shape_of}
use Rattle.shell_run.specs.Outcomes.{ShellOutcome, AuditOutcome}
use Rattle.plain_site.specs.Site.{Site}
use Rattle.plain_site.specs.Step.{site_machine}
use Rattle.plain_site.specs.Sound.{IsSound}

-- Over what was left of the input at first: bodies were cut from its front, and replies that answer their events, from the
-- plain site of this number that opens, were given as frames, all of them unless writing failed.
abbrev pub RunFrom : Site → Status → Option (List ℕ) → Option (List ℕ) → List ℕ → List ℕ → Type 0
RunFrom site status old new first left =
    Outcome status (λ s. s ≡ site) (λ s bodies. Answered site_machine (shape_of status) IsSound old new s (map event_of bodies)) first left

-- Lines were cut from its front, and the lines of replies that answer what they ask, from the plain site of this number that
-- opens, were given, all of them unless writing failed.
abbrev pub ShellFrom : Site → Status → Option (List ℕ) → Option (List ℕ) → List ℕ → List ℕ → Type 0
ShellFrom site status old new first left = ShellOutcome site_machine status (λ s. s ≡ site) IsSound old new first left

-- Bodies were cut from its front, and the lines that tell what they ask, and replies that answer it, were given likewise.
abbrev pub AuditFrom : Site → Status → Option (List ℕ) → Option (List ℕ) → List ℕ → List ℕ → Type 0
AuditFrom site status old new first left = AuditOutcome site_machine status (λ s. s ≡ site) IsSound old new first left

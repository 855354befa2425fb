-- The log of a shorter history, before it is put on a disk.
use Rattle.std.specs.Prelude.{◌≡◌, ◌/◌, List, [], ◌++◌, ℕ, Option, Some, None, min, replicate}
use Rattle.rest_machine.specs.declared.resting.Resting.{Ghosts as AResting}
use Rattle.log_groups.specs.declared.fronts.LogFront.{LogFront}
use Rattle.site_log.specs.declared.drafts.Draft.{Draft}
use Rattle.site_log.specs.declared.drafts.TheConstants.{MAX_GUARDS}
use Rattle.site_log.specs.Kept.{TakesAll}
use Rattle.site_log.specs.Files.{IsLogText}

-- how many groups without things stand behind a shorter history, where the old text had so many bytes: as many as it had KiB, 512 at most
abbrev pub guards_of : ℕ → ℕ
guards_of bytes = min MAX_GUARDS (bytes / 1024)

-- so many bodies without things stand behind the others
abbrev pub AreGuarded : ℕ → List (List ℕ) → Type 0
AreGuarded guards bodies = (others : List (List ℕ)) × (bodies ≡ others ++ replicate guards [])

module _ {M : Type 0} (m : AResting M) where
  -- a draft has the text of the log of this front and these bodies, which its machine took back from a state, one after another
  pub record IsDraft (from : m.Plain) (front : LogFront) (draft : Draft M) (bodies : List (List ℕ)) : Type 0 where
    pub text : IsLogText draft.text.items front draft.number bodies
    pub end : m.Plain
    pub taken : TakesAll m from bodies end
    pub stood : m.stands draft.machine end

  -- it has the text of a log that its machine took back
  abbrev pub HasDraft : m.Plain → LogFront → Draft M → Type 0
  HasDraft from front draft = (bodies : List (List ℕ)) × IsDraft from front draft bodies

  -- it has such a text, with so many bodies without things behind the others
  abbrev pub HasGuards : ℕ → m.Plain → LogFront → Draft M → Type 0
  HasGuards guards from front draft = (bodies : List (List ℕ)) × (IsDraft from front draft bodies × AreGuarded guards bodies)

  -- A draft's bodies are taken back from where a machine opened, to where this machine stands too, at rest. So many without things stand
  -- behind the others.
  pub record IsShorter (guards : ℕ) (machine : M) (front : LogFront) (draft : Draft M) : Type 0 where
    pub bodies : List (List ℕ)
    pub drafted : IsDraft (m.opening machine) front draft bodies
    pub guarded : AreGuarded guards bodies
    pub rests : (s : m.Plain) → m.stands machine s → (u : m.Plain) × (m.stands machine u × (m.at_rest u ≡ drafted.end))

  -- a draft that was found is such
  abbrev pub FindsShorter : ℕ → M → LogFront → Option (Draft M) → Type 0
  FindsShorter guards machine front (Some draft) = IsShorter guards machine front draft
  FindsShorter guards machine front None = Unit {0}

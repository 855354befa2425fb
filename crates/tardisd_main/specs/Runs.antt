-- What the words of the server come to.
use Rattle.std.specs.Prelude.{◌≡◌, ℕ, ◌++◌, ◌≤◌, ◌⊎◌, List, length, Option, Some, None, Result, Ok, Err}
use Rattle.disk_store.specs.declared.disks.Disk.{Ghosts as ADisk}
use Rattle.disk_store.specs.declared.stores.Store.{Ghosts as AStore}
use Rattle.command_words.specs.Settings.{settings}
use Rattle.daemon_words.specs.Daemons.{Daemon, daemon}
use Rattle.command_words.specs.Helps.{AskVersion}
use Rattle.daemon_words.specs.Helps.{AskDaemonUsage}
use Rattle.daemon_words.specs.Checks.{checked_file}
use Rattle.hub.specs.declared.ports.Seen.{Seen}
use Rattle.hub.specs.declared.serves.End.{End}
use Rattle.hub.specs.declared.serves.End.TheVariants.{Unsettled}
use Rattle.tardisd_main.specs.declared.endings.GateFault.{GateFault}
use Rattle.tardisd_main.specs.declared.endings.DaemonEnd.{DaemonEnd}
use Rattle.tardisd_main.specs.declared.endings.DaemonEnd.TheVariants.{Told, WriteFailed, NoMemory, Gate}
use Rattle.tardisd_main.specs.Ends.{end_by}
use Rattle.tardisd_main.specs.Sites.{ServesPlace}
use Rattle.tardisd_main.specs.Stores.{KeepsAs}
use Rattle.tardisd_main.specs.Checks.{ChecksAs}

-- the words ask for nothing that the server does
abbrev pub AreNone : List (List ℕ) → Type 0
AreNone words = (daemon (settings words) ≡ None) × (checked_file words ≡ None) × (AskDaemonUsage words → ⊥) × (AskVersion words → ⊥)

-- All of the text was written; or a front of it, where writing failed; or nothing, where there was no memory for the words.
abbrev pub Tells : List ℕ → DaemonEnd → List ℕ → List ℕ → Type 0
Tells text Told before after = after ≡ before ++ text
Tells text WriteFailed before after = (lost : List ℕ) × ((after ++ lost ≡ before ++ text) × (length lost ≤ length text))
Tells text NoMemory before after = after ≡ before
Tells text _ before after = ⊥

-- What becomes of an edge that was asked to open: over it the site at the place is served, in this life, or there was no memory for
-- that. A site in memory can always settle.
abbrev pub EndsAs : {P : Type 0} → (P → Option (List Seen)) → Result P GateFault → Daemon → (life : List ℕ) → DaemonEnd → Type 0
EndsAs {P} seen (Ok ports) asked life end =
    (end ≡ NoMemory)
    ⊎ ((left : P) × (why : End) × ServesPlace asked life why (seen ports) (seen left) × (why ≡ Unsettled → ⊥) × (end ≡ end_by why))
EndsAs seen (Err fault) asked life end = end ≡ Gate fault

module _ {D P : Type 0} (opens : Daemon → Result P GateFault → Type 0) (seen : P → Option (List Seen)) (life : List ℕ) where
  -- The edge was asked to open as was asked for, and this became of it. Where there was no memory for the words it wasn't asked.
  abbrev pub ServesAs : D → D → Daemon → DaemonEnd → Type 0
  ServesAs old new asked end =
      ((end ≡ NoMemory) × (new ≡ old)) ⊎ ((opened : Result P GateFault) × opens asked opened × EndsAs seen opened asked life end)

  -- words of a server without a file: the site at their place is served at their doors and fetches from their peers, no file is opened, and
  -- nothing is written
  abbrev pub Serves : {S O : Type 0} → D → D → S → S → O → O → List (List ℕ) → DaemonEnd → Type 0
  Serves old new was now before after words end =
      (asked : Daemon) → daemon (settings words) ≡ Some asked → asked.file ≡ None → ServesAs old new asked end × (now ≡ was) × (after ≡ before)

-- words of a server with a file: the site at their place is kept in it, served at their doors and fetches from their peers, and nothing is written
abbrev pub KeepsFile : {D P S K O : Type 0} → (Daemon → Result P GateFault → Type 0) → (P → Option (List Seen)) → AStore S K → ADisk K → List ℕ → D → D
    → S → S → O → O → List (List ℕ) → DaemonEnd → Type 0
KeepsFile opens seen st k life old new was now before after words end =
    (asked : Daemon) (path : List ℕ) → daemon (settings words) ≡ Some asked → asked.file ≡ Some path
    → KeepsAs opens seen st k life asked path old new was now end × (after ≡ before)

-- words that ask to check a file: it is read, the edge isn't asked, and nothing is written
abbrev pub Checks : {D S K O : Type 0} → AStore S K → ADisk K → D → D → S → S → O → O → List (List ℕ) → DaemonEnd → Type 0
Checks st k old new was now before after words end =
    (path : List ℕ) → checked_file words ≡ Some path → ChecksAs st k path was now end × (new ≡ old) × (after ≡ before)

-- so it is for the arguments of the program; or there was no memory for them, and then the store wasn't asked
abbrev pub ChecksWithRoom : {D S K O : Type 0} → AStore S K → ADisk K → D → D → S → S → O → O → List (List ℕ) → DaemonEnd → Type 0
ChecksWithRoom st k old new was now before after words end =
    (path : List ℕ) → checked_file words ≡ Some path
    → (ChecksAs st k path was now end ⊎ ((end ≡ NoMemory) × (now ≡ was))) × (new ≡ old) × (after ≡ before)

-- A machine with its journal.
use Rattle.std.specs.Prelude.{◌≡◌, ◌⊎◌, ℕ, ◌+◌, ◌<◌, ◌≤◌, false, List, [], ◌∷◌, ◌++◌, length, map, Result, Ok, Err}
use Rattle.std.specs.List.{AllByRecursion}
use Rattle.tardis_base.specs.Sizes.{longest_trail}
use Rattle.tardis_base.specs.Plain.{Event, state_after}
use Rattle.tardis_io.specs.Faults.{Rose}
use Rattle.frame_cut.specs.Events.{event_of}
use Rattle.disk_store.specs.Disks.{longest_disk, LeavesOnly}
use Rattle.site_journal.specs.declared.journals.Journaled.{Journaled}
use Rattle.site_journal.specs.declared.journals.OpenEnd.{OpenEnd}
use Rattle.site_journal.specs.declared.journals.OpenEnd.TheVariants.{DiskFault, NoMemory}
use Rattle.site_journal.specs.declared.journals.Staged.{Staged}
use Rattle.site_journal.specs.declared.journals.Staged.TheVariants.{Done as StagedDone, TrailFull as StagedFull, NoMemory as StagedNoMemory}
use Rattle.site_journal.specs.declared.journals.JournalEnd.{JournalEnd}
use Rattle.site_journal.specs.declared.journals.JournalEnd.TheVariants.{Done as ActDone, TrailFull as ActFull, NoMemory as ActNoMemory, DiskFault as ActFault}
use Rattle.site_journal.specs.Texts.{IsEntry, entry_of, marked}
use Rattle.site_journal.specs.Moments.{IsAtRest, WasRead}
use Rattle.disk_store.specs.declared.disks.Disk.{Ghosts as ADisk}
use Rattle.site_journal.specs.Sizes.{most_staged, longest_entry}
use Rattle.tardis_base.specs.declared.machines.Machine.{Ghosts as AMachine}

-- At first the disk was only read, and from some moment on a crash leaves what has P: so it is where the journal was opened.
-- Where it wasn't, the disk may have been read alone.
abbrev pub Mends : {K : Type 0} → ADisk K → K → K → (List ℕ → Type 0) → Type 0
Mends {K} k old new P = (synced : K)
    × (WasRead k old synced × LeavesOnly k.moment k.left_since synced new P)

module _ {M K : Type 0} where
  -- a longest entry, and the byte that ends a journal, find room behind those that are staged
  abbrev pub HasRoom : Journaled M K → Type 0
  HasRoom j = length j.staged + longest_entry ≤ most_staged

  -- the disk after a commit
  abbrev pub disk_after : Result (Journaled M K) K → K
  disk_after (Ok j) = j.disk
  disk_after (Err disk) = disk

  -- the disk after a journal was to be opened
  abbrev pub disk_of : Result (Journaled M K × ℕ) (OpenEnd K) → K
  disk_of (Ok opened) = opened.0.disk
  disk_of (Err (DiskFault disk)) = disk
  disk_of (Err (NoMemory disk)) = disk

  abbrev pub disk_at : JournalEnd M K → K
  disk_at (ActDone j) = j.disk
  disk_at (ActFull j bytes) = j.disk
  disk_at (ActNoMemory j) = j.disk
  disk_at (ActFault disk) = disk

  -- a journal wasn't opened for a fault only where the disk's count rose
  abbrev pub OpenFault : ADisk K → K → Result (Journaled M K × ℕ) (OpenEnd K) → Type 0
  OpenFault k disk (Err (DiskFault new)) = Rose (k.faults disk) (k.faults new)
  OpenFault k disk _ = Unit {0}

  abbrev pub ActRose : ADisk K → K → JournalEnd M K → Type 0
  ActRose k disk (ActFault new) = Rose (k.faults disk) (k.faults new)
  ActRose k disk _ = Unit {0}

  abbrev pub OpenImages : ADisk K → K → Result (Journaled M K × ℕ) (OpenEnd K) → (List ℕ → Type 0) → Type 0
  OpenImages k old (Ok opened) P = Mends k old opened.0.disk P
  OpenImages k old (Err end) P = Mends k old (disk_of (Err end)) P
      ⊎ WasRead k old (disk_of (Err end))

module _ {M K : Type 0} (m : AMachine M) (k : ADisk K) where
  -- The machine answered the entries of the journal, which are those of its disk where it is honest, and those that are
  -- staged behind them.
  pub record IsOpen (j : Journaled M K) (entries staged : List (List ℕ)) : Type 0 where
    pub stood : m.stands j.machine (state_after m.plain (m.opening j.machine) (map event_of (entries ++ staged)))
    pub each : AllByRecursion IsEntry entries
    pub each_staged : AllByRecursion IsEntry staged
    pub text : j.staged ≡ marked staged
    pub at : j.place ≡ length (marked entries)
    pub limit : (staged ≡ []) ⊎ (j.place + length (marked staged) ≤ j.max_trail)
    pub within : j.place ≤ longest_disk
    pub room : length j.staged + 1 ≤ most_staged
    pub most : j.max_trail ≤ longest_trail
    pub rest : k.honest j.disk → IsAtRest k j.disk entries

  -- the state after the entries and those that are staged
  abbrev pub state_of : Journaled M K → List (List ℕ) → List (List ℕ) → m.Plain
  state_of j entries staged = state_after m.plain (m.opening j.machine) (map event_of (entries ++ staged))

  -- What became of an event that was to be staged. The journal is full exactly where its bytes and those of the entry, 7 more
  -- than its request, are more than it may have.
  abbrev pub StagedBy : Staged → Journaled M K → Journaled M K → List (List ℕ) → List (List ℕ) → Event → List ℕ → Type 0
  StagedBy StagedDone old new entries staged e out =
      IsOpen new entries (staged ++ entry_of e ∷ []) × (out ≡ m.plain.reply (state_of old entries staged) e)
      × (length (marked (entries ++ staged)) + (length e.1 + 7) ≤ old.max_trail)
  StagedBy (StagedFull bytes) old new entries staged e out =
      (new ≡ old) × (out ≡ []) × (bytes ≡ length (marked (entries ++ staged))) × (old.max_trail < bytes + (length e.1 + 7))
  StagedBy StagedNoMemory old new entries staged e out =
      IsOpen new entries staged × (out ≡ []) × (m.plain.is_sure e ≡ false) × (length (marked (entries ++ staged)) + (length e.1 + 7) ≤ old.max_trail)

  -- what became of an event, with nothing staged before and after
  abbrev pub EndsAct : JournalEnd M K → Journaled M K → List (List ℕ) → Event → List ℕ → Type 0
  EndsAct (ActDone new) old entries e out =
      IsOpen new (entries ++ entry_of e ∷ []) [] × (out ≡ m.plain.reply (state_of old entries []) e)
      × (length (marked entries) + (length e.1 + 7) ≤ old.max_trail)
  EndsAct (ActFull new bytes) old entries e out =
      (new ≡ old) × (out ≡ []) × (bytes ≡ length (marked entries)) × (old.max_trail < bytes + (length e.1 + 7))
  EndsAct (ActNoMemory new) old entries e out =
      IsOpen new entries [] × (out ≡ []) × (m.plain.is_sure e ≡ false) × (length (marked entries) + (length e.1 + 7) ≤ old.max_trail)
  EndsAct (ActFault disk) old entries e out = out ≡ []

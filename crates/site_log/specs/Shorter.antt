-- What comes of telling a log shorter.
use Rattle.std.specs.Prelude.{◌≡◌, ◌⊎◌, ℕ, ◌+◌, ◌*◌, ◌/◌, ◌<◌, ◌≤◌, List, max, min, [], true, false}
use Rattle.tardis_io.specs.Faults.{Rose}
use Rattle.disk_store.specs.declared.disks.Disk.{Ghosts as ADisk}
use Rattle.site_log.specs.declared.logged.Logged.{Logged}
use Rattle.site_log.specs.declared.logged.TheConstants.{LONG}
use Rattle.site_log.specs.Files.{OpenFile, IsFile, IsSameFile}
use Rattle.site_log.specs.Drafts.{guards_of, AreGuarded}
use Rattle.site_log.specs.declared.shortens.Shortened.{Shortened}
use Rattle.site_log.specs.declared.shortens.Shortened.TheVariants.{NotLong, Done, NoShorter, NoMemory, NoRoom, Failed}

-- how long a log becomes before it is told shorter for the first time
abbrev pub first_length : ℕ
first_length = LONG

-- the largest number of 64 bits
abbrev pub largest : ℕ
largest = 18446744073709551615

-- beyond which length a log that has so many bytes is told shorter next: once it is twice as long, and has 16 MiB at least
abbrev pub twice_as_long : ℕ → ℕ
twice_as_long bytes = max first_length (min (bytes * 2) largest)

-- and where no shorter one was found: once it has grown by a quarter, by 16 MiB at least
abbrev pub quarter_longer : ℕ → ℕ
quarter_longer bytes = min (bytes + max first_length (bytes / 4)) largest

-- a fact, where a shorter log is there now
abbrev pub WhereDone : Shortened → Type 0 → Type 0
WhereDone (Done _ _) fact = fact
WhereDone _ fact = Unit {0}

-- a fact, where a shorter log was looked for
abbrev pub WhereLooked : Shortened → Type 0 → Type 0
WhereLooked NotLong fact = Unit {0}
WhereLooked Failed fact = Unit {0}
WhereLooked _ fact = fact

module _ {M K : Type 0} where
  -- the log as it was, but for the length beyond which it is told shorter next
  abbrev pub next_beyond : Logged M K → ℕ → Logged M K
  next_beyond l next = record {
    machine = l.machine;
    file = l.file;
    waiting = l.waiting;
    text = l.text;
    owed = l.owed;
    alloc = l.alloc;
    long = next;
  }

  -- The log is no longer than the length beyond which it is told shorter next. This was so before, or follows from what the log has.
  abbrev pub LooksAgain : ℕ → Logged M K → Type 0
  LooksAgain before l =
      (l.file.place ≤ l.long) × ((l.long ≡ before) ⊎ ((l.long ≡ twice_as_long l.file.place) ⊎ (l.long ≡ quarter_longer l.file.place)))

-- where the old file had a log, the new one has one with groups without things behind the others: as many as the old one's text asks for
abbrev pub IsGuarded : {K : Type 0} → ADisk K → OpenFile K → OpenFile K → Type 0
IsGuarded k old new =
    (bodies : List (List ℕ)) → IsFile k old bodies → (others : List (List ℕ)) × (IsFile k new others × AreGuarded (guards_of old.place) others)

module _ {M K : Type 0} (k : ADisk K) where
  -- the file's text is longer than so many bytes, and nothing waits
  abbrev pub IsLong : Logged M K → ℕ → Type 0
  IsLong l length = (l.file.failed ≡ false) × (length < l.file.place) × (l.waiting ≡ [])

  -- it isn't, or something waits
  abbrev pub IsNotLong : Logged M K → ℕ → Type 0
  IsNotLong l length = (l.file.failed ≡ false) × ((l.file.place ≤ length) ⊎ (l.waiting ≡ [] → ⊥))

  -- what came of telling a log shorter than so many bytes, and beyond which length that is done next
  abbrev pub WasTold : Logged M K → ℕ → Shortened → Logged M K → Type 0
  WasTold old length NotLong new = IsNotLong old length × (new ≡ old)
  WasTold old length (Done before after) new =
      IsLong old length × (new.file.failed ≡ false) × (before ≡ old.file.place) × (after ≡ new.file.place) × (after < before) × (new.file.room ≡ after)
      × (new.long ≡ twice_as_long after)
  WasTold old length NoShorter new = IsLong old length × (new ≡ next_beyond old (quarter_longer old.file.place))
  WasTold old length NoMemory new = IsLong old length × (new ≡ next_beyond old (twice_as_long old.file.place))
  WasTold old length NoRoom new = IsLong old length × IsSameFile k old.file new.file × (new.long ≡ twice_as_long old.file.place)
  WasTold old length Failed new =
      (new.file.failed ≡ true)
      × (((old.file.failed ≡ true) × (new ≡ old)) ⊎ (IsLong old length × Rose (k.faults old.file.disk) (k.faults new.file.disk)))

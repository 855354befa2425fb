-- The entries of a disk, and a machine that answered them.
use Rattle.std.specs.Prelude.{◌≡◌, ◌⊎◌, ℕ, ◌+◌, ◌<◌, ◌≤◌, List, [], ◌∷◌, ◌++◌, length, take, drop, map, Option, Some, None}
use Rattle.std.specs.List.{AllByRecursion}
use Rattle.tardis_base.specs.Plain.{state_after}
use Rattle.disk_store.specs.Disks.{longest_disk}
use Rattle.frame_cut.specs.Frames.{frame}
use Rattle.frame_cut.specs.Events.{event_of}
use Rattle.site_journal.specs.declared.replays.Found.{Found}
use Rattle.site_journal.specs.Texts.{IsEntry, marked, EndsAt}
use Rattle.disk_store.specs.declared.disks.Disk.{Ghosts as ADisk}
use Rattle.tardis_base.specs.declared.machines.Machine.{Ghosts as AMachine}

-- the next entry in the bytes, of so many bytes at the front of the buffer, or none
abbrev pub IsNextEntry : List ℕ → List ℕ → Option ℕ → Type 0
IsNextEntry bytes buf (Some count) = (bytes ≡ 1 ∷ (frame (take count buf) ++ drop (5 + count) bytes))
IsNextEntry bytes buf None = (entry more : List ℕ) → bytes ≡ 1 ∷ (frame entry ++ more) → IsEntry entry → more ≡ []

-- the machine stands for the state after these entries, which are those of the disk where it is honest
pub record Replayed {M K : Type 0} (m : AMachine M) (k : ADisk K)
    (machine : M) (disk : K) (found : Found) : Type 0 where
  pub entries : List (List ℕ)
  pub each : AllByRecursion IsEntry entries
  pub stood : m.stands machine (state_after m.plain (m.opening machine) (map event_of entries))
  pub count : found.entries ≡ length entries
  pub place : found.place ≡ length (marked entries)
  pub within : found.place ≤ found.size
  pub begin : (found.place ≡ 0) ⊎ (found.place < found.size)
  pub most : found.size ≤ longest_disk
  pub size : k.honest disk → found.size ≡ length (k.reads disk)
  pub ends : k.honest disk → (rest : List ℕ) × EndsAt (k.reads disk) entries rest

-- What contracts see of a disk in memory.
use Rattle.std.specs.Prelude.{ℕ, List, length, Bool, Result}
use Rattle.tardis_io.specs.declared.faults.Failed.{Failed}
use Rattle.disk_store.specs.Disks.{Elapses}
use Rattle.memory_disks.specs.declared.histories.Kept.{Kept}
use Rattle.memory_disks.specs.declared.memory_disks.MemoryDisk.{MemoryDisk}
use Rattle.memory_disks.specs.Memory.{Recorded, known_of, fresh, IsImage, LeftSince, PlanAnswers, Records, RecordsReplaced}

-- what a read gives
abbrev pub reads : MemoryDisk → List ℕ
reads d = (known_of d.history).reads

-- the images that a crash now may leave
abbrev pub may_leave : MemoryDisk → List ℕ → Type 0
may_leave d = IsImage (known_of d.history)

-- the moment: how many calls there were
abbrev pub moment : MemoryDisk → ℕ
moment d = length d.history.calls

-- the images that a crash at some moment from that one on might have left
abbrev pub left_since : MemoryDisk → ℕ → List ℕ → Type 0
left_since d t image = LeftSince t (fresh d.history.first) d.history.calls image

-- time went on
abbrev pub GoesOn : MemoryDisk → MemoryDisk → Type 0
GoesOn old new = Elapses (moment old) (moment new) (left_since old) (left_since new) (may_leave new)

-- What a call does that is recorded as done, with the bytes that it writes, and where it failed as is said: it fails exactly where
-- it is listed or finds no room.
pub record Calls {T : Type 0} (done : Kept) (bytes : List ℕ) (WhereFailed : Recorded → Recorded → Type 0) (old new : MemoryDisk) (result : Result T Failed) : Type 0 where
  pub answer : PlanAnswers old.history (length bytes) old.plan new.plan result
  pub recorded : Records done bytes WhereFailed old.history new.history result

-- What a replacement by these bytes does: it fails exactly where it is listed or finds no room for one call more, and answers whether
-- the bytes find room.
pub record Replaces (bytes : List ℕ) (old new : MemoryDisk) (result : Result Bool Failed) : Type 0 where
  pub answer : PlanAnswers old.history 0 old.plan new.plan result
  pub recorded : RecordsReplaced bytes old.history new.history result

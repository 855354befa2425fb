-- What a crash may leave of a disk in memory: the calls since the last good sync, and what each may have done.
use Rattle.std.specs.Prelude.{◌≡◌, ◌⊎◌, ℕ, ◌≤◌, List, [], ◌∷◌, ◌++◌}
use Rattle.memory_disks.specs.declared.histories.Kept.{Kept}
use Rattle.memory_disks.specs.declared.histories.Kept.TheVariants.{Synced, Replaced}
use Rattle.memory_disks.specs.Memory.{Call, Known, Recorded, fresh, after, Steps, IsImage}

-- after this call a crash leaves what a read gives, and nothing else
abbrev pub IsSync : Kept → Type 0
IsSync Synced = Unit {0}
IsSync (Replaced count) = Unit {0}
IsSync _ = ⊥

-- nothing was done yet, or a sync or a replacement was done last
abbrev pub IsSettled : List Kept → Type 0
IsSettled calls = (calls ≡ []) ⊎ ((before : List Kept) × (last : Kept) × IsSync last × (calls ≡ before ++ last ∷ []))

-- none of these is a sync, or a replacement that was done
abbrev pub HasNoSync : List Kept → Type 0
HasNoSync [] = Unit {0}
HasNoSync (kept ∷ calls) = (IsSync kept → ⊥) × HasNoSync calls

-- what a read gives after a call, where it gave these bytes before
abbrev pub read_after : List ℕ → Call → List ℕ
read_after bytes call = (after (fresh bytes) call).reads

-- the same after several calls
abbrev pub read_after_all : List ℕ → List Call → List ℕ
read_after_all bytes [] = bytes
read_after_all bytes (call ∷ calls) = read_after_all (read_after bytes call) calls

-- which bytes of a write of so many are there after a crash: so many of the range at its front hold junk, and over
-- these stand the written bytes from one place to another
pub record IsPart (count junk from to : ℕ) : Type 0 where
  pub has_room : junk ≤ count
  pub in_order : from ≤ to
  pub within : to ≤ count

-- a record of a disk to which nothing was done
abbrev pub unused : List ℕ → ℕ → Recorded
unused bytes room = record { first = bytes; calls = []; written = 0; room = room }

-- where these calls were made of what the last good sync left, a crash may leave just what is known
abbrev pub IsSince : Known → List Call → Type 0
IsSince s calls = (image : List ℕ) → Steps s.base calls image → IsImage s image

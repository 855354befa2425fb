-- Files on which no log was begun, or none whose front is whole.
use Rattle.std.specs.Prelude.{ℕ, ◌⊎◌, ◌≤◌, List, length, take, drop, replicate}
use Rattle.log_text.specs.Texts.{HasNoEntry, IsZeros, Mixed}
use Rattle.log_groups.specs.Items.{log_name}
use Rattle.site_log.specs.declared.makes.TheConstants.{FIRST_ROOM, MAX_FRONT}

-- how many zeros a new file has, at least, before its front is written
abbrev pub first_room : ℕ
first_room = FIRST_ROOM

-- the most bytes of a front's entry
abbrev pub longest_front : ℕ
longest_front = MAX_FRONT

-- What a crash may leave while a front's entry is written over the zeros of a new file, where it doesn't leave all of it: no whole
-- entry is there, where the format's name would be each byte is that of the name or a zero, and behind the front all are zeros.
pub record IsFrontInPart (bytes : List ℕ) : Type 0 where
  pub none : HasNoEntry bytes
  pub name : Mixed (replicate 8 0) log_name (take 8 bytes)
  pub few : IsZeros (drop longest_front bytes)
  pub long : first_room ≤ length bytes

-- a file without bytes, one of zeros alone, or one with a front in part
abbrev pub IsNew : List ℕ → Type 0
IsNew bytes = IsZeros bytes ⊎ IsFrontInPart bytes

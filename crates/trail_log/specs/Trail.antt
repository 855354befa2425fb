-- A machine with its trail.
use Rattle.std.specs.Prelude.{ℕ, ◌+◌, List, [], ◌∷◌, length}
use Rattle.tardis_base.specs.Plain.{Event}

-- an entry has 6 bytes more than its request
abbrev pub bytes_of : List Event → ℕ
bytes_of [] = 0
bytes_of (e ∷ es) = (length e.1 + 6) + bytes_of es

-- the entries that are kept, and the room that was taken for more
pub record Logged : Type 0 where
  pub trail : List Event
  pub room : ℕ

-- the machine, the entries of the trail, oldest first, and how many bytes they may have
pub record Kept (M : Type 0) : Type 0 where
  pub machine : M
  pub trail : List Event
  pub max_trail : ℕ

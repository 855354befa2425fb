-- The connections of a hub: a slot for each, and why no more of one is answered.
use Rattle.std.specs.Prelude.{◌≡◌, ◌≢◌, ℕ, ◌<◌, Bool, true, false, List, length, slice_get, Option, Some, None, ◌⊎◌}
use Rattle.tardis_base.specs.Sizes.{piece}
use Rattle.frame_cut.specs.Frames.{IsPartial, IsLong}
use Rattle.hub.specs.declared.turns.TheConstants.{SLOTS}

-- the most connections that may be there at once
abbrev pub slots : ℕ
slots = SLOTS

-- The door through which it came; the bytes that came and aren't answered, those that wait to be written, and whether the
-- frame that is next is too long
pub record ConnectionState : Type 0 where
  pub door : ℕ
  pub cutter : List ℕ
  pub waiting : List ℕ
  pub long : Bool

abbrev pub connection_in : Option (Option ConnectionState) → Option ConnectionState
connection_in None = None
connection_in (Some connection) = connection

-- the connection in this slot
abbrev pub connection_at : List (Option ConnectionState) → ℕ → Option ConnectionState
connection_at connections n = connection_in (slice_get connections n)

-- all slots but this one are as before
abbrev pub OthersStay : ℕ → List (Option ConnectionState) → List (Option ConnectionState) → Type 0
OthersStay slot old new = (n : ℕ) → n ≢ slot → connection_at new n ≡ connection_at old n

-- No more is answered: a too long frame is next, which the connection then says; or no whole frame is; or much waits.
abbrev pub IsStopped : Bool → List ℕ → List ℕ → Type 0
IsStopped true held waiting = (len : ℕ) × IsLong held len
IsStopped false held waiting = IsPartial held ⊎ (piece < length waiting)

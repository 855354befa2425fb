-- Frames, and the cut of bytes into them.
use Rattle.std.specs.Prelude.{◌≡◌, ℕ, ◌+◌, ◌<◌, ◌≤◌, List, ◌++◌, length, take, ◌⊎◌, flat_map}
use Rattle.std.specs.Int.{w32, to_be_bytes, from_be_bytes}
use Rattle.std.specs.List.{AllByRecursion}
use Rattle.tardis_base.specs.Sizes.{longest_frame}

-- a body behind its length word
unfoldable pub frame : List ℕ → List ℕ
frame body = to_be_bytes w32 (length body) ++ body

-- the length word at the front
unfoldable pub word : List ℕ → ℕ
word bytes = from_be_bytes w32 (take 4 bytes)

-- as long as a body may be
abbrev pub IsBody : List ℕ → Type 0
IsBody body = length body ≤ longest_frame

-- nothing, or fewer bytes than the frame has; fewer than four are that, whatever they are
abbrev pub IsPartial : List ℕ → Type 0
IsPartial bytes = (length bytes < 4) ⊎ ((word bytes ≤ longest_frame) × (length bytes < 4 + word bytes))

-- a length word that is too large is next
abbrev pub IsLong : List ℕ → ℕ → Type 0
IsLong bytes len = (4 ≤ length bytes) × (word bytes ≡ len) × (longest_frame < len)

-- no whole frame is next
abbrev pub IsEnd : List ℕ → Type 0
IsEnd bytes = IsPartial bytes ⊎ ((len : ℕ) × IsLong bytes len)

-- the frames of bodies or replies, in order
abbrev pub frames : List (List ℕ) → List ℕ
frames bodies = flat_map frame bodies

-- the bytes are the frames of these bodies, and then the rest
pub record Cuts (bytes : List ℕ) (bodies : List (List ℕ)) (rest : List ℕ) : Type 0 where
  pub whole : bytes ≡ frames bodies ++ rest
  pub each : AllByRecursion IsBody bodies

-- the cut of the bytes: the bodies of their frames, up to where no whole frame is next
pub record IsCut (bytes : List ℕ) (bodies : List (List ℕ)) (rest : List ℕ) : Type 0 where
  pub cuts : Cuts bytes bodies rest
  pub ends : IsEnd rest

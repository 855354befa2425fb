-- A trail as bytes: the frames of its entries.
use Rattle.std.specs.Prelude.{◌≡◌, ℕ, ◌+◌, ◌-◌, ◌<◌, ◌≤◌, List, [], ◌∷◌, ◌++◌, length, take, drop, map}
use Rattle.std.specs.Int.{w16, to_be_bytes}
use Rattle.std.specs.List.{AllByRecursion}
use Rattle.tardis_base.specs.Sizes.{longest_framed, longest_request}
use Rattle.tardis_base.specs.Plain.{Event}
use Rattle.frame_cut.specs.Frames.{frames, word, IsCut}
use Rattle.frame_cut.specs.Events.{event_of}

-- the body of an entry's frame: the actor, high byte first, and the request
abbrev pub body_of : Event → List ℕ
body_of e = to_be_bytes w16 e.0 ++ e.1

-- the frames of the entries, in order
abbrev pub trail_frames : List Event → List ℕ
trail_frames trail = frames (map body_of trail)

-- whoever reads these bytes frame by frame reads just these entries
abbrev pub IsRead : List ℕ → List Event → Type 0
IsRead bytes trail = (bodies : List (List ℕ)) × (IsCut bytes bodies [] × (map event_of bodies ≡ trail))

-- an entry whose frame may be written
abbrev pub IsEntry : Event → Type 0
IsEntry e = (e.0 < 65536) × (length e.1 ≤ longest_request)

-- the entries whose frames stand in the bytes, and at most so many of them
unfoldable pub entries_within : ℕ → List ℕ → List Event
entries_within ℕ.zero bytes = []
entries_within (ℕ.suc most) [] = []
entries_within (ℕ.suc most) (b ∷ bytes) =
    event_of (take (word (b ∷ bytes)) (drop 4 (b ∷ bytes))) ∷ entries_within most (drop (4 + word (b ∷ bytes)) (b ∷ bytes))

-- the entries whose frames stand in the bytes
unfoldable pub entries_of : List ℕ → List Event
entries_of bytes = entries_within (length bytes) bytes

-- the bytes are the frames of entries, and of nothing else
pub record IsTrail (bytes : List ℕ) : Type 0 where
  pub frames_are : bytes ≡ trail_frames (entries_of bytes)
  pub each : AllByRecursion IsEntry (entries_of bytes)

-- how many bytes the last of the chunks has room for
abbrev pub room_behind : List (List ℕ) → ℕ
room_behind [] = 0
room_behind (chunk ∷ []) = longest_framed - length chunk
room_behind (chunk ∷ next ∷ chunks) = room_behind (next ∷ chunks)

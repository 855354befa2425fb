-- Turns: requests of one session, each met by the trail as it was then.
use Rattle.std.specs.Prelude.{◌≡◌, ℕ, ◌+◌, ◌≤◌, List, [], ◌∷◌, ◌++◌, length, take, Some}
use Rattle.std.specs.List.{slice_get}
use Rattle.tardis_base.specs.Plain.{Event}
use Rattle.trail_log.specs.Trail.{bytes_of}
use Rattle.trail_log.specs.Ends.{IsFullAt}
use Rattle.trail_log.specs.declared.acted.Acted.{Acted}
use Rattle.trail_log.specs.declared.acted.Acted.TheVariants.{Done, TrailFull, NoMemory}

-- how many entries the trail had when it was the request's turn, and what became of the request
pub record Turn : Type 0 where
  pub found : ℕ
  pub acted : Acted

-- an answered request has the place behind the entries that it found; any other has none
abbrev pub place_with : ℕ → Acted → List ℕ
place_with found Done = found ∷ []
place_with found (TrailFull bytes) = []
place_with found NoMemory = []

-- the places of the requests that were answered
abbrev pub places_of : List Turn → List ℕ
places_of [] = []
places_of (t ∷ ts) = place_with t.found t.acted ++ places_of ts

-- how many entries the trail had at least when the turn was over
abbrev pub left_by : Turn → ℕ
left_by t = t.found + length (place_with t.found t.acted)

-- A turn of an event, in a list of entries with which the trail begins. The trail had no room for the event exactly where
-- the turn was answered TrailFull, which tells the bytes of what it found. An answered event is the entry at its place.
pub record IsTurn (most : ℕ) (seen : List Event) (e : Event) (t : Turn) : Type 0 where
  pub within : t.found ≤ length seen
  pub room : IsFullAt t.acted (bytes_of (take t.found seen)) (length e.1 + 6) most
  pub entry : t.acted ≡ Done → slice_get seen t.found ≡ Some e

-- each of the events had one turn, one after another, when the trail had at least `from` entries
abbrev pub HadTurns : ℕ → List Event → ℕ → List Event → List Turn → Type 0
HadTurns most seen from [] [] = Unit {0}
HadTurns most seen from (e ∷ es) (t ∷ ts) = (from ≤ t.found) × IsTurn most seen e t × HadTurns most seen (left_by t) es ts
HadTurns most seen from [] (t ∷ ts) = ⊥
HadTurns most seen from (e ∷ es) [] = ⊥

-- What bodies ask.
use Rattle.std.specs.Prelude.{ℕ, ◌+◌, ◌*◌, List, [], ◌∷◌}
use Rattle.tardis_base.specs.Plain.{Event}

-- the first two bytes are the actor and the rest is the request; a shorter body is the empty request of actor 0
abbrev pub event_of : List ℕ → Event
event_of [] = (0, [])
event_of (a ∷ []) = (0, [])
event_of (a ∷ b ∷ request) = (256 * a + b, request)

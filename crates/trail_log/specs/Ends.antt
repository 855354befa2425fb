-- How a request with a trail ends.
use Rattle.std.specs.Prelude.{◌≡◌, ℕ, ◌+◌, ◌<◌, ◌≤◌, List, [], ◌∷◌, ◌++◌}
use Rattle.tardis_base.specs.Plain.{Event}
use Rattle.trail_log.specs.declared.acted.Acted.{Acted}
use Rattle.trail_log.specs.declared.acted.Acted.TheVariants.{Done, TrailFull, NoMemory}

-- the trail after the call: only a request that was answered joins it
abbrev pub trail_with : Acted → List Event → Event → List Event
trail_with Done trail e = trail ++ e ∷ []
trail_with (TrailFull bytes) trail e = trail
trail_with NoMemory trail e = trail

-- The trail had so many bytes, the entry has so many more, and so many there may be. It is full exactly where they are
-- too many, and then the answer tells how many the trail has.
abbrev pub IsFullAt : Acted → ℕ → ℕ → ℕ → Type 0
IsFullAt Done bytes more most = bytes + more ≤ most
IsFullAt (TrailFull told) bytes more most = (told ≡ bytes) × (most < bytes + more)
IsFullAt NoMemory bytes more most = bytes + more ≤ most

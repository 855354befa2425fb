-- What an edge in memory tells.
use Rattle.std.specs.Prelude.{Bool, true, false, List, Option, Some, None}
use Rattle.hub.specs.declared.ports.Seen.{Seen}

-- all calls that it saw, unless memory for one was wanting
abbrev pub told : Bool → List Seen → Option (List Seen)
told true seen = None
told false seen = Some seen

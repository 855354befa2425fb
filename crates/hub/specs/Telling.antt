-- What an edge tells of the calls that were made on it.
use Rattle.std.specs.Prelude.{◌≡◌, List, ◌++◌, map, ℕ, Option, Some, None}
use Rattle.hub.specs.declared.ports.Seen.{Seen}
use Rattle.hub.specs.declared.ports.Seen.TheVariants.{NotedReply}

-- Where the edge told what it saw, it tells these calls after it. An edge may stop telling, and then tells nothing again.
abbrev pub Tells : Option (List Seen) → Option (List Seen) → List Seen → Type 0
Tells None None calls = Unit {0}
Tells (Some before) None calls = Unit {0}
Tells None (Some after) calls = ⊥
Tells (Some before) (Some after) calls = after ≡ before ++ calls

-- the replies to what the hub asked itself, each as the edge is told of it
abbrev pub own_replies : List (List ℕ) → List Seen
own_replies replies = map (λ reply. NotedReply reply) replies

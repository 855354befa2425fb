-- A pass before and after a session.
use Rattle.std.specs.Prelude.{◌≡◌, ℕ, List, ◌++◌, length, drop, Some}
use Rattle.std.specs.List.{AllByRecursion, slice_get}
use Rattle.tardis_base.specs.Plain.{Event}
use Rattle.dag_lock.specs.Known.{Known, Begins, Ascends}
use Rattle.dag_lock.specs.Steps.{Keeps}

-- the places that are the pass's own after, and weren't before
abbrev pub new_places : Known → Known → List ℕ
new_places p q = drop (length p.owned) q.owned

-- the entry at a place is a request of the actor
abbrev pub IsAskedBy : ℕ → List Event → ℕ → Type 0
IsAskedBy actor seen place = (request : List ℕ) × (slice_get seen place ≡ Some (actor, request))

-- The pass is of the same lock and has as many pieces. It has seen what it had seen, and perhaps more, and owns what it
-- owned, and behind that new places, in order, none of them among what it had seen. Their entries are all of one actor.
pub record Goes (actor : ℕ) (p q : Known) : Type 0 where
  pub keeps : Keeps p q
  pub seen : Begins p.seen q.seen
  pub owned : q.owned ≡ p.owned ++ new_places p q
  pub ascend : Ascends (length p.seen) (length q.seen) (new_places p q)
  pub each : AllByRecursion (IsAskedBy actor q.seen) (new_places p q)

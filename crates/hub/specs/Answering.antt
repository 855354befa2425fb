-- Requests of one connection, and their replies behind what waits to be written to it.
use Rattle.std.specs.Prelude.{◌≡◌, ℕ, List, [], ◌∷◌, ◌++◌, map, Option}
use Rattle.tardis_base.specs.Plain.{Event, PlainMachine, Answers}
use Rattle.frame_cut.specs.Frames.{frame, frames, Cuts}
use Rattle.hub.specs.declared.ports.Seen.{Seen}
use Rattle.hub.specs.Telling.{Tells, own_replies}
use Rattle.hub.specs.declared.upkeeps.LastReply.{LastReply}
use Rattle.hub.specs.Upkeeps.{UpkeepRule, TallyState, noted, said}

-- the bodies, each as a request of the actor
abbrev pub asks : ℕ → List (List ℕ) → List Event
asks actor bodies = map (λ body. (actor, body)) bodies

-- From s a reply answers the request, its frame stands behind what waited, it is counted, and the value stands for the next
-- state.
pub record Replied {S : Type 0} (m : PlainMachine S) (to : S → Type 0) (before after : List ℕ) (tally next : TallyState) (s : S) (event : Event) : Type 0 where
  pub reply : List ℕ
  pub state : S
  pub answers : Answers m s (event ∷ []) (reply ∷ []) state
  pub stands : to state
  pub put : after ≡ before ++ frame reply
  pub counts : next ≡ noted tally (reply ∷ [])

-- From s replies answer these requests of the actor, their frames stand behind what waited, they are counted, and the value
-- stands for the last state.
pub record Answered {S : Type 0} (m : PlainMachine S) (to : S → Type 0) (actor : ℕ) (before after : List ℕ) (tally next : TallyState)
    (bodies : List (List ℕ)) (s : S) : Type 0 where
  pub replies : List (List ℕ)
  pub state : S
  pub answers : Answers m s (asks actor bodies) replies state
  pub stands : to state
  pub put : after ≡ before ++ frames replies
  pub counts : next ≡ noted tally replies

-- bodies were cut from the front of what was held and answered; the rest is held
pub record Serves {S : Type 0} (m : PlainMachine S) (from to : S → Type 0) (actor : ℕ) (held rest before after : List ℕ) (tally next : TallyState) : Type 0 where
  pub bodies : List (List ℕ)
  pub read : Cuts held bodies rest
  pub answered : (s : S) → from s → Answered m to actor before after tally next bodies s

-- From s replies answer these requests of actor 0, the value stands for the last state, what the last reply says by the rule is told, and
-- the edge is told of each.
pub record Asked {S : Type 0} (m : PlainMachine S) (to : S → Type 0) (bodies : List (List ℕ)) (rule : UpkeepRule) (last : LastReply)
    (before after : Option (List Seen)) (s : S) : Type 0 where
  pub replies : List (List ℕ)
  pub state : S
  pub answers : Answers m s (asks 0 bodies) replies state
  pub stands : to state
  pub says : last ≡ said rule replies
  pub told : Tells before after (own_replies replies)

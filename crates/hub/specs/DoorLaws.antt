-- What a run behind doors comes to.
use Rattle.std.specs.Prelude.{◌≡◌, ℕ, ◌+◌, Bool, true, false, List, [], ◌∷◌, ◌++◌, map, Option, Some, None, ◌⊎◌, if◌then◌else◌}
use Rattle.std.specs.Option.{option_map}
use Rattle.tardis_base.specs.Plain.{Event, PlainMachine, Answers, no_memory}
use Rattle.hub.specs.Settlings.{PlainSettling}
use Rattle.hub.specs.Doors.{DoorRules, seen_through}
use Rattle.hub.specs.Talks.{Talk}
use Rattle.hub.specs.Turns.{Turn, Received, Sent, Ended, KeptUp, PeerDid, talk}
use Rattle.hub.specs.Runs.{close, Ran}
use Rattle.hub.specs.Laws.{IsSeenAs}

-- A request with its reply, and the door through which it came; none, where the hub asked it itself. The reply to the request
-- that closes a session goes to nobody.
pub record Entry : Type 0 where
  pub door : Option ℕ
  pub event : Event
  pub reply : Option (List ℕ)

-- the bodies, each as a request of the actor with its reply
abbrev pub with_replies : Option ℕ → ℕ → (bodies replies : List (List ℕ)) → List Entry
with_replies door actor [] replies = []
with_replies door actor (body ∷ bodies) [] = record { door = door; event = (actor, body); reply = None } ∷ with_replies door actor bodies []
with_replies door actor (body ∷ bodies) (reply ∷ replies) =
    record { door = door; event = (actor, body); reply = Some reply } ∷ with_replies door actor bodies replies

abbrev pub door_of : Option Talk → Option ℕ
door_of connection = option_map (λ t. t.door) connection

-- the requests of a turn behind older ones
abbrev pub entries_of : (older : List Turn) → Turn → List Entry
entries_of older (Received slot room came bodies replies) = with_replies (door_of (talk slot older)) (slot + 1) bodies replies
entries_of older (Sent slot offered wrote bodies replies) = with_replies (door_of (talk slot older)) (slot + 1) bodies replies
entries_of older (Ended slot) = record { door = None; event = (slot + 1, close); reply = None } ∷ []
entries_of older (KeptUp bodies replies) = with_replies None 0 bodies replies
entries_of older (PeerDid peer offered t) = with_replies None 0 t.bodies t.replies
entries_of older _ = []

-- all requests of turns, oldest first
abbrev pub entries : List Turn → List Entry
entries [] = []
entries (turn ∷ older) = entries older ++ entries_of older turn

-- a request with the state before it
pub record Placed (S : Type 0) : Type 0 where
  pub state : S
  pub entry : Entry

abbrev pub lets_in_by : {S : Type 0} → DoorRules S → Option ℕ → S → Event → Bool
lets_in_by rules None s event = true
lets_in_by rules (Some door) s event = rules.lets_in door s event

-- what the hub asks itself is let in, and what comes through a door is by its rules, from the state before it
abbrev pub is_let_in : {S : Type 0} → DoorRules S → Placed S → Bool
is_let_in rules p = lets_in_by rules p.entry.door p.state p.entry.event

-- the requests that are let in, each from the state before it
abbrev pub let_in : {S : Type 0} → DoorRules S → List (Placed S) → List Entry
let_in rules [] = []
let_in rules (p ∷ ps) =
    let more = let_in rules ps in
    if is_let_in rules p then p.entry ∷ more else more

abbrev pub IsReply : Option (List ℕ) → List ℕ → Type 0
IsReply None reply = Unit {0}
IsReply (Some told) reply = reply ≡ told

-- these replies were given to these requests
abbrev pub AreReplies : List Entry → List (List ℕ) → Type 0
AreReplies [] [] = Unit {0}
AreReplies (e ∷ es) (reply ∷ replies) = IsReply e.reply reply × AreReplies es replies
AreReplies [] (reply ∷ replies) = ⊥
AreReplies (e ∷ es) [] = ⊥

-- from s these requests, with the replies that were given to them, are one run of the machine, and lead to t
pub record IsTrail {S : Type 0} (m : PlainMachine S) (s : S) (es : List Entry) (t : S) : Type 0 where
  pub replies : List (List ℕ)
  pub answers : Answers m s (map (λ e. e.event) es) replies t
  pub given : AreReplies es replies

-- the request was answered at its door, from state u
abbrev pub IsAnsweredAt : {S : Type 0} → DoorRules S → S → Option ℕ → Event → Option (List ℕ) → Type 0
IsAnsweredAt rules u (Some door) event (Some reply) = (reply ≡ rules.answer door u event) ⊎ ((reply ≡ no_memory) × (rules.is_sure door event ≡ false))
IsAnsweredAt rules u (Some door) event None = ⊥
IsAnsweredAt rules u None event reply = ⊥

-- Between s and t a request has this place: those that were let in before it lead from s to the state before it; from there it and those
-- behind it lead to t, as far as they were let in; and where it wasn't itself, it was answered at its door from that state.
pub record HasPlace {S : Type 0} (m : PlainMachine S) (rules : DoorRules S) (s : S) (before : List (Placed S)) (p : Placed S) (after : List (Placed S)) (t : S) : Type 0 where
  pub led : IsTrail m s (let_in rules before) p.state
  pub leads : IsTrail m p.state (let_in rules (p ∷ after)) t
  pub answered : is_let_in rules p ≡ false → IsAnsweredAt rules p.state p.entry.door p.entry.event p.entry.reply

-- From s these requests, each from the state before it, lead to t. Those that were let in are one trail, in order; and each has its place,
-- so that each other one was answered at its door from the state at which the trail stood there.
pub record IsTrailBehindDoors {S : Type 0} (m : PlainMachine S) (rules : DoorRules S) (s : S) (es : List Entry) (t : S) : Type 0 where
  pub placed : List (Placed S)
  pub all : map (λ p. p.entry) placed ≡ es
  pub trail : IsTrail m s (let_in rules placed) t
  pub places : (before after : List (Placed S)) (p : Placed S) → placed ≡ before ++ p ∷ after → HasPlace m rules s before p after t

-- Seen by what a state shows, the machine that settles is a plain one, and through each door that one as the rules say.
pub record IsSeenBehind {S P : Type 0} (w : PlainSettling S) (m : PlainMachine P) (rules : DoorRules P) (shows : S → P) : Type 0 where
  pub within : IsSeenAs w m shows
  pub step : (door : ℕ) (s : S) (event : Event) → shows ((w.through door).step s event) ≡ (seen_through m rules door).step (shows s) event
  pub reply : (door : ℕ) (s : S) (event : Event) → (w.through door).reply s event ≡ (seen_through m rules door).reply (shows s) event
  pub is_sure : (door : ℕ) (event : Event) → (w.through door).is_sure event ≡ (seen_through m rules door).is_sure event

-- turns that were one after another are so, with all their requests
abbrev pub TrailBehindDoors : {S P : Type 0} → PlainSettling S → PlainMachine P → DoorRules P → (S → P) → Type 0
TrailBehindDoors {S} w m rules shows = (s t : S) (turns : List Turn) → Ran w s turns t → IsTrailBehindDoors m rules (shows s) (entries turns) (shows t)

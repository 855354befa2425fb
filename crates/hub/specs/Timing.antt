-- When upkeep comes in a run, and what is asked.
use Rattle.std.specs.Prelude.{◌≡◌, ℕ, List, [], ◌∷◌, Option, Some, None, option_map}
use Rattle.hub.specs.declared.ports.Ready.{Ready}
use Rattle.hub.specs.declared.ports.Ready.TheVariants.{Peer as OfPeer}
use Rattle.hub.specs.declared.upkeeps.LastReply.{LastReply}
use Rattle.hub.specs.Upkeeps.{UpkeepRule, TallyState, first_tally, noted, timed, passed, paid, said, nothing_said, due_by, waited_by, asked}
use Rattle.hub.specs.Turns.{Turn, Rested, Received, Sent, KeptUp, Settled, PeerDid}

-- an offer of a peer tells the time
abbrev pub told_time : TallyState → Ready → TallyState
told_time tally (OfPeer peer now news) = timed tally now
told_time tally _ = tally

abbrev pub heard : TallyState → Turn → TallyState
heard tally (Rested offer) = told_time tally offer
heard tally (PeerDid peer offered t) = timed tally t.now
heard tally _ = tally

abbrev pub said_by : Option UpkeepRule → List (List ℕ) → LastReply
said_by None replies = nothing_said
said_by (Some rule) replies = said rule replies

-- What a turn makes of the tally: the edge tells the time, replies to connections and for peers are counted, and the turn has passed; or an
-- upkeep is paid off, by what its last reply says.
abbrev pub tally_after : TallyState → Turn → TallyState
tally_after tally (Received slot room came bodies replies) = passed (noted tally replies)
tally_after tally (Sent slot offered wrote bodies replies) = passed (noted tally replies)
tally_after tally (PeerDid peer offered t) = passed (noted (timed tally t.now) t.replies)
tally_after tally (Rested offer) = passed (told_time tally offer)
tally_after tally (KeptUp bodies replies) = paid tally (said_by tally.rule replies)
tally_after tally Settled = tally
tally_after tally _ = passed tally

abbrev pub tally_of : Option UpkeepRule → List Turn → TallyState
tally_of rule [] = first_tally rule
tally_of rule (turn ∷ older) = tally_after (tally_of rule older) turn

-- the requests that are due by a tally
abbrev pub requests_by : TallyState → Option (List (List ℕ))
requests_by tally = option_map (λ rule. asked rule (waited_by tally)) (due_by tally)

-- the requests that are due after these turns
abbrev pub due : Option UpkeepRule → List Turn → Option (List (List ℕ))
due rule older = requests_by (tally_of rule older)

-- Where requests are due the turn asks these, and where none are it is one of the edge.
abbrev pub IsTimely : Option UpkeepRule → List Turn → Turn → Type 0
IsTimely rule older (KeptUp bodies replies) = due rule older ≡ Some bodies
IsTimely rule older _ = due rule older ≡ None

abbrev pub AreTimely : Option UpkeepRule → List Turn → Type 0
AreTimely rule [] = Unit {0}
AreTimely rule (turn ∷ older) = IsTimely rule older turn × AreTimely rule older

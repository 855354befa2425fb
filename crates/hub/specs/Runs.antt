-- Whole runs of a hub: one trail of all requests, and what each connection that ever was has of it.
use Rattle.std.specs.Prelude.{◌≡◌, ℕ, ◌+◌, ◌<◌, List, [], ◌∷◌, ◌++◌, length, Option, Some, None, IfSome}
use Rattle.tardis_base.specs.Plain.{Event, Answers}
use Rattle.site_peers.specs.declared.peers.Peer.{Peer}
use Rattle.site_peers.specs.Moves.{News, Sent as SentBytes, waiting}
use Rattle.hub.specs.declared.ports.Scope.{Scope}
use Rattle.hub.specs.declared.ports.PeerNews.TheVariants.{Write as MayWrite}
use Rattle.hub.specs.declared.ports.Ready.{Ready}
use Rattle.hub.specs.declared.ports.Ready.TheVariants.{Write, Peer as OfPeer, Stop}
use Rattle.hub.specs.declared.ports.Seen.{Seen}
use Rattle.hub.specs.declared.ports.Seen.TheVariants.{Offered}
use Rattle.hub.specs.declared.serves.End.{End}
use Rattle.hub.specs.declared.serves.End.TheVariants.{Stopped, Spent, Unsettled}
use Rattle.hub.specs.Settlings.{PlainSettling}
use Rattle.hub.specs.Upkeeps.{UpkeepRule}
use Rattle.hub.specs.Answering.{asks}
use Rattle.hub.specs.Telling.{Tells}
use Rattle.hub.specs.Talks.{Talk, IsTalk}
use Rattle.hub.specs.Timing.{due, AreTimely}
use Rattle.hub.specs.Turns.{Turn, Rested, Opened, Missed, TurnedAway, Received, Sent, Ended, KeptUp, Settled, PeerDid, calls_in, talk, IsPeer, ArePeers, HasSome, IsRight}

-- the request that closes a session
abbrev pub close : List ℕ
close = 21 ∷ []

-- the requests of a connection are answered by the machine as it is seen through the connection's door
abbrev pub AnswersTo : {S : Type 0} → PlainSettling S → Option Talk → S → List Event → List (List ℕ) → S → Type 0
AnswersTo w None u events replies t = ⊥
AnswersTo w (Some connection) u events replies t = Answers (w.through connection.door) u events replies t

-- bytes may be written to a peer only where nothing is owed
abbrev pub MaySend : {S : Type 0} → PlainSettling S → S → News → Type 0
MaySend w u (SentBytes bytes) = w.is_settled u
MaySend w u _ = Unit {0}

-- What a turn behind older ones makes of a state: its requests are those of the actor that is the slot's number and one
-- more, through the door of the connection that has the slot; and the hub's own and those for a peer are of actor 0, through none, as the
-- request that closes a session. Bytes are written to a connection or a peer only where nothing is owed of all that was answered
-- before.
abbrev pub Leads : {S : Type 0} → PlainSettling S → List Turn → S → Turn → S → Type 0
Leads w older u (Rested offer) t = t ≡ u
Leads w older u (Opened slot door) t = t ≡ u
Leads w older u (Missed slot) t = t ≡ u
Leads w older u TurnedAway t = t ≡ u
Leads w older u (Received slot room came bodies replies) t = AnswersTo w (talk slot older) u (asks (slot + 1) bodies) replies t
Leads w older u (Sent slot offered wrote bodies replies) t = w.is_settled u × AnswersTo w (talk slot older) u (asks (slot + 1) bodies) replies t
Leads w older u (Ended slot) t = t ≡ w.machine.step u (slot + 1, close)
Leads w older u (KeptUp bodies replies) t = Answers w.machine u (asks 0 bodies) replies t
Leads w older u Settled t = t ≡ w.settled u
Leads w older u (PeerDid peer offered did) t = MaySend w u did.news × Answers w.machine u (asks 0 did.bodies) did.replies t

-- From s these turns, of which the newest is first, led to t: the requests of all connections are one trail, and each is
-- answered where it stands in it by the plain machine, as it is seen through the connection's door.
abbrev pub Ran : {S : Type 0} → PlainSettling S → S → List Turn → S → Type 0
Ran w s [] t = t ≡ s
Ran w s (turn ∷ older) t = (u : _) × (Ran w s older u × Leads w older u turn t)

-- Each turn was right where it stands; and then, as at each earlier moment, each connection that was there had its
-- replies. So each that ever was had them when it ended.
abbrev pub AreServed : Scope → List Turn → Type 0
AreServed scope [] = Unit {0}
AreServed scope (turn ∷ older) = IsRight scope older turn × (((n : ℕ) → IfSome (talk n (turn ∷ older)) IsTalk) × AreServed scope older)

-- how many turns were made, with those of the upkeep; settling belongs to the write that it comes before
abbrev pub counts : Turn → ℕ
counts Settled = 0
counts _ = 1

abbrev pub count_of : List Turn → ℕ
count_of [] = 0
count_of (turn ∷ older) = count_of older + counts turn

-- it is an offer to write, to a connection or a peer for which bytes wait
abbrev pub IsWanted : Scope → List Turn → Ready → Type 0
IsWanted scope turns (Write slot) = HasSome (talk slot turns)
IsWanted scope turns (OfPeer n now MayWrite) = (p : Peer) × IsPeer scope turns n p × (0 < length (waiting p.moment))
IsWanted scope turns _ = ⊥

-- What the edge sees last. It said stop, and no upkeep is left undone; or so many turns were made; or it offered to write
-- what waits, and nothing is written, since what was answered couldn't be settled.
abbrev pub EndsAfter : Option UpkeepRule → Scope → List Turn → End → List Seen → Type 0
EndsAfter rule scope turns Stopped last = (last ≡ Offered Stop ∷ []) × (due rule turns ≡ None)
EndsAfter rule scope turns Spent last = (last ≡ []) × (count_of turns ≡ 18446744073709551615)
EndsAfter rule scope turns Unsettled last = (offer : Ready) × ((last ≡ Offered offer ∷ []) × IsWanted scope turns offer × (due rule turns ≡ None))

-- A run from s: its turns, of which the edge saw just their calls; one trail; each connection's part of it; each peer, as its turns
-- led to it; and upkeep whenever it was due. It ends where the edge says so, or what was answered can't be settled.
pub record IsRun {S : Type 0} (w : PlainSettling S) (rule : Option UpkeepRule) (scope : Scope) (to : S → Type 0) (s : S) (end : End)
    (before after : Option (List Seen)) : Type 0 where
  pub turns : List Turn
  pub state : S
  pub ran : Ran w s turns state
  pub stands : to state
  pub served : AreServed scope turns
  pub fetched : ArePeers scope turns
  pub last : List Seen
  pub seen : Tells before after (calls_in turns ++ last)
  pub timely : AreTimely rule turns
  pub ended : EndsAfter rule scope turns end last

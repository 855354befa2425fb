-- Worked turns of a peer with which an exchange is made every 5 seconds.
use Rattle.std.specs.Prelude.{◌≡◌, ℕ, true, false, Some, None, List, [], ◌∷◌, ◌++◌, map}
use Rattle.tardis_base.specs.Ids.{root}
use Rattle.tardis_base.specs.declared.records.Write.TheVariants.{Delete}
use Rattle.tardis_base.specs.declared.records.Record.{Record}
use Rattle.tardis_base.specs.declared.records.Item.TheVariants.{State, Promise}
use Rattle.tardis_base.specs.declared.records.Batch.{Batch}
use Rattle.tardis_base.specs.declared.replies.Reply.TheVariants.{Stat as Statistics, Batch as BatchIs, Applied, Known, Refused}
use Rattle.tardis_base.specs.declared.replies.Refusal.TheVariants.{Full}
use Rattle.frame_cut.specs.Frames.{frame}
use Rattle.wire_lives.specs.declared.life_codes.TheConstants.{ANOTHER_LIFE, NO_INTRODUCTION}
use Rattle.wire_talk.specs.Spellings.{reply_spelling}
use Rattle.site_peers.specs.declared.deeds.Deed.{Deed}
use Rattle.site_peers.specs.declared.deeds.Deed.TheVariants.{Stay, Call, Fail}
use Rattle.site_peers.specs.declared.deeds.Failure.{Failure}
use Rattle.site_peers.specs.declared.deeds.Failure.TheVariants.{NotReached, Late, NotMet, NotABatch, NoRoom}
use Rattle.site_peers.specs.declared.moments.Moment.{Moment}
use Rattle.site_peers.specs.declared.moments.Moment.TheVariants.{Away, Calling, Greeting, Greeted, Idle, Asked, Delivering}
use Rattle.site_peers.specs.declared.peers.Peer.{Peer}
use Rattle.site_peers.specs.Asking.{stat, delivery, items_of, meeting}
use Rattle.site_peers.specs.Moves.{News, Time, Through, Came, Sent, Moves}
use Rattle.site_peers.specs.Runs.{PeerTurn, Exchange, Went, exchanges}
use Rattle.site_peers.specs.Connections.{since_call, IsMet}

abbrev pub id_of : ℕ → List ℕ → Record
id_of n key = record { id = record { site = 2; sequence = n }; parents = root ∷ []; writes = (key, Delete) ∷ [] }

-- two states of site 2, and its promise
abbrev pub batch : Batch
batch = record {
  records = id_of 1 (97 ∷ []) ∷ id_of 2 (98 ∷ []) ∷ [];
  consents = record { site = 2; number = 1; floor = root; count = 2 } ∷ [];
}

-- of site 1 there are 3 states here, and none of site 2
abbrev pub statistics : List ℕ
statistics = reply_spelling (Statistics 3 3 1 0 (record { count = 3; floor = root; number = 0 } ∷ record { count = 0; floor = root; number = 0 } ∷ []))

-- the frame that asks for an introduction
abbrev pub hello : List ℕ
hello = 0 ∷ 0 ∷ 0 ∷ 1 ∷ 71 ∷ []

-- site 2 of 2, with its life
abbrev pub introduction : List ℕ
introduction = 71 ∷ 0 ∷ 2 ∷ 0 ∷ 2 ∷ 1 ∷ 2 ∷ 3 ∷ 4 ∷ 5 ∷ 6 ∷ 7 ∷ 8 ∷ 9 ∷ 10 ∷ 11 ∷ 12 ∷ 13 ∷ 14 ∷ 15 ∷ 16 ∷ []

-- the frame that asks for what is above 3 and 0: Pull, 2 counts
abbrev pub question : List ℕ
question = 0 ∷ 0 ∷ 0 ∷ 10 ∷ 19 ∷ 2 ∷ 0 ∷ 0 ∷ 0 ∷ 3 ∷ 0 ∷ 0 ∷ 0 ∷ 0 ∷ []

abbrev pub answer : List ℕ
answer = frame (reply_spelling (BatchIs batch))

abbrev pub applied : List ℕ
applied = reply_spelling Applied

abbrev pub turn : ℕ → News → List (List ℕ) → List (List ℕ) → Deed → PeerTurn
turn now news bodies replies deed = record { now = now; news = news; bodies = bodies; replies = replies; deed = deed }

abbrev pub peer : ℕ → Moment → Peer
peer pause moment = record { every = 5000; pause = pause; last = None; moment = moment }

-- the same, behind a failure
abbrev pub behind : Failure → ℕ → Moment → Peer
behind why pause moment = record { every = 5000; pause = pause; last = Some why; moment = moment }

-- The newest turn first: the peer is called at 5, the call came through at 6, the question for its introduction was written, the introduction came
-- at 8, and at 9 the site met the peer and told its counts; the question was written, and the answer came.
abbrev pub until_answered : List PeerTurn
until_answered =
    turn 11 (Came answer) [] [] Stay
    ∷ turn 9 (Sent question) [] [] Stay
    ∷ turn 9 Time (meeting introduction ∷ stat ∷ []) ((72 ∷ 0 ∷ []) ∷ statistics ∷ []) Stay
    ∷ turn 8 (Came (frame introduction)) [] [] Stay
    ∷ turn 7 (Sent hello) [] [] Stay
    ∷ turn 6 Through [] [] Stay
    ∷ turn 5 Time [] [] Call
    ∷ []

-- its three items were delivered at 12, so that the next exchange is due at 5012
abbrev pub one_exchange : List PeerTurn
one_exchange = turn 12 Time (map delivery (items_of batch)) (applied ∷ applied ∷ applied ∷ []) Stay ∷ until_answered

abbrev pub ExchangeIsMade : Type 0
ExchangeIsMade = Went 5000 one_exchange (peer 1000 (Idle 12 5000))

-- what there is of it
abbrev pub ExchangeIsSeen : Type 0
ExchangeIsSeen = exchanges one_exchange ≡ record {
  statistics = statistics;
  wrote = question;
  came = answer;
  asked = delivery (State (id_of 1 (97 ∷ []))) ∷ delivery (State (id_of 2 (98 ∷ []))) ∷ delivery (Promise (record { site = 2; number = 1; floor = root; count = 2 })) ∷ [];
  replied = applied ∷ applied ∷ applied ∷ [];
  failed = false;
} ∷ []

-- as many states are kept as may be, which are 4
abbrev pub full : List ℕ
full = reply_spelling (Refused (Full 4))

-- Of the three items the site had no room for the second: all were delivered and the exchange failed, which is told. The peer is called again after 1
-- second, and after a further failure after 2.
abbrev pub one_refused : List PeerTurn
one_refused = turn 12 Time (map delivery (items_of batch)) (applied ∷ full ∷ applied ∷ []) (Fail (NoRoom 1) true) ∷ until_answered

abbrev pub RefusedIsMade : Type 0
RefusedIsMade = Went 5000 one_refused (behind (NoRoom 1) 2000 (Away 12 1000))

abbrev pub RefusedIsSeen : Type 0
RefusedIsSeen = map (λ (e : Exchange). e.failed) (exchanges one_refused) ≡ true ∷ []

-- the peer was met
abbrev pub PeerIsMet : Type 0
PeerIsMet = IsMet (since_call one_exchange)

-- A peer with another life than the one in which it was met: it is asked nothing, which is told, and left alone for 1 second.
abbrev pub NotMetIsTold : Type 0
NotMetIsTold = Moves (peer 1000 (Greeted introduction)) 9 (meeting introduction ∷ []) ((72 ∷ 1 ∷ []) ∷ []) (Fail (NotMet ANOTHER_LIFE) true)
    (behind (NotMet ANOTHER_LIFE) 2000 (Away 9 1000)) Time

-- so it is told where the peer was away before
abbrev pub NotMetIsToldBehind : Type 0
NotMetIsToldBehind = Moves (behind NotReached 32000 (Greeted introduction)) 9 (meeting introduction ∷ []) ((72 ∷ 1 ∷ []) ∷ [])
    (Fail (NotMet ANOTHER_LIFE) true) (behind (NotMet ANOTHER_LIFE) 60000 (Away 9 32000)) Time

-- the peer was asked for its introduction at 9, and all was written
abbrev pub greeted_at_9 : Peer
greeted_at_9 = peer 1000 (Greeting 9 (record { left = []; came = [] }))

-- an introduction is waited for as long as an answer
abbrev pub GreetingLateIsTold : Type 0
GreetingLateIsTold = Moves greeted_at_9 30009 [] [] (Fail Late true) (behind Late 2000 (Away 30009 1000)) Time

-- 65 bytes are no introduction, and the site isn't asked
abbrev pub LongIntroductionIsTold : Type 0
LongIntroductionIsTold = Moves greeted_at_9 20 [] [] (Fail (NotMet NO_INTRODUCTION) true) (behind (NotMet NO_INTRODUCTION) 2000 (Away 20 1000))
    (Came (frame (introduction ++ introduction ++ introduction ++ 0 ∷ 0 ∷ [])))

-- the peer was asked at 9, and all was written
abbrev pub asked_at_9 : Peer
asked_at_9 = peer 1000 (Asked 9 (record { left = []; came = [] }))

-- An answer that is no batch: the exchange failed, which is told; the peer is left alone for 1 second, and after a further failure for 2.
abbrev pub NoBatchIsTold : Type 0
NoBatchIsTold = Moves asked_at_9 20 [] [] (Fail NotABatch true) (behind NotABatch 2000 (Away 20 1000)) (Came (frame applied))

-- 30 seconds less a millisecond are waited for an answer, and not 30; that it is away isn't told again
abbrev pub WaitsAWhile : Type 0
WaitsAWhile = Moves asked_at_9 30008 [] [] Stay asked_at_9 Time

abbrev pub LateIsTold : Type 0
LateIsTold = Moves asked_at_9 30009 [] [] (Fail Late true) (behind Late 2000 (Away 30009 1000)) Time

abbrev pub LateAgainIsNotTold : Type 0
LateAgainIsNotTold = Moves (behind NotReached 32000 (Calling 9)) 30009 [] [] (Fail Late false) (behind Late 60000 (Away 30009 32000)) Time

-- the last item of a full batch is left, of which nothing was of use yet
abbrev pub full_at_last : Peer
full_at_last = peer 1000 (Delivering (State (id_of 1 (97 ∷ [])) ∷ []) true true false 0)

-- where it is applied the next exchange follows at once, and where it was known it doesn't
abbrev pub FullGoesOnAtOnce : Type 0
FullGoesOnAtOnce = Moves full_at_last 12 (delivery (State (id_of 1 (97 ∷ []))) ∷ []) (applied ∷ []) Stay (peer 1000 (Idle 12 0)) Time

abbrev pub FullOfNoUseWaits : Type 0
FullOfNoUseWaits = Moves full_at_last 12 (delivery (State (id_of 1 (97 ∷ []))) ∷ []) (reply_spelling Known ∷ []) Stay (peer 1000 (Idle 12 5000)) Time

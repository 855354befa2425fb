-- Runs of a peer: its turns, and the exchanges that they made.
use Rattle.std.specs.Prelude.{◌≡◌, ℕ, ◌<◌, ◌≤◌, Bool, true, false, ◌||◌, List, [], ◌∷◌, ◌++◌, length, map, bytes_eq, if◌then◌else◌, ◌⊎◌, min}
use Rattle.std.specs.List.{list_any}
use Rattle.tardis_base.specs.declared.records.Item.{Item}
use Rattle.tardis_base.specs.declared.records.Batch.{Batch}
use Rattle.tardis_base.specs.declared.replies.SiteLine.{SiteLine}
use Rattle.tardis_base.specs.declared.replies.Reply.TheVariants.{Batch as BatchIs}
use Rattle.tardis_base.specs.Plain.{PlainMachine, Answers}
use Rattle.wire_talk.specs.Spelled.{SpellsReply}
use Rattle.site_peers.specs.declared.deeds.Deed.{Deed}
use Rattle.site_peers.specs.declared.deeds.Deed.TheVariants.{Call, Fail}
use Rattle.site_peers.specs.declared.moments.Moment.{Moment}
use Rattle.site_peers.specs.declared.moments.Moment.TheVariants.{Away, Calling, Greeting, Greeted, Idle, Asked, Delivering}
use Rattle.site_peers.specs.declared.peers.Peer.{Peer}
use Rattle.site_peers.specs.Questions.{QuestionState}
use Rattle.site_peers.specs.Asking.{by_nobody, stat, delivery, items_of, AreStatistics, pull_frame, refused_of, meeting, met}
use Rattle.site_peers.specs.Hearing.{StartsWith}
use Rattle.site_peers.specs.Moves.{News, Time, Came, Sent, most_a_turn, fresh, most_refused, Moves, Rests, rest_of}

-- what a turn was: what the edge told at this time, the requests of actor 0 and their replies, and what was asked of the edge
pub record PeerTurn : Type 0 where
  pub now : ℕ
  pub news : News
  pub bodies : List (List ℕ)
  pub replies : List (List ℕ)
  pub deed : Deed

-- from a fresh peer these turns, of which the newest is first, led to q
abbrev pub Went : (every : ℕ) → List PeerTurn → Peer → Type 0
Went every [] q = q ≡ fresh every
Went every (t ∷ older) q = (p : Peer) × Went every older p × Moves p t.now t.bodies t.replies t.deed q t.news

-- An exchange: the reply to Stat with which it began; and since then, until the next one or until the peer was called again, the bytes that were
-- written to the peer, those that came of it, the requests that were asked and their replies, and whether anything failed.
pub record Exchange : Type 0 where
  pub statistics : List ℕ
  pub wrote : List ℕ
  pub came : List ℕ
  pub asked : List (List ℕ)
  pub replied : List (List ℕ)
  pub failed : Bool

abbrev pub wrote_in : News → List ℕ
wrote_in (Sent bytes) = bytes
wrote_in _ = []

abbrev pub came_in : News → List ℕ
came_in (Came bytes) = bytes
came_in _ = []

abbrev pub is_failure : Deed → Bool
is_failure (Fail why told) = true
is_failure _ = false

-- a turn more of an exchange
abbrev pub more_of : PeerTurn → Exchange → Exchange
more_of t e = record {
  statistics = e.statistics;
  wrote = e.wrote ++ wrote_in t.news;
  came = e.came ++ came_in t.news;
  asked = e.asked ++ t.bodies;
  replied = e.replied ++ t.replies;
  failed = e.failed || is_failure t.deed;
}

abbrev pub is_call : Deed → Bool
is_call Call = true
is_call _ = false

-- with Stat an exchange begins
abbrev pub begins : List (List ℕ) → Bool
begins bodies = list_any (λ body. bytes_eq body stat) bodies

-- the reply to Stat, of requests and their replies
abbrev pub told_of : (bodies replies : List (List ℕ)) → List ℕ
told_of (body ∷ bodies) (reply ∷ replies) = if bytes_eq body stat then reply else told_of bodies replies
told_of _ _ = []

-- the exchange that begins with a turn
abbrev pub begun_by : PeerTurn → Exchange
begun_by t = record { statistics = told_of t.bodies t.replies; wrote = []; came = []; asked = []; replied = []; failed = is_failure t.deed }

-- an exchange began since the peer was last called
abbrev pub within : List PeerTurn → Bool
within [] = false
within (t ∷ older) = if begins t.bodies then true else (if is_call t.deed then false else within older)

abbrev pub last_more : PeerTurn → List Exchange → List Exchange
last_more t [] = []
last_more t (e ∷ es) = more_of t e ∷ es

-- the exchanges of these turns, the newest first
abbrev pub exchanges : List PeerTurn → List Exchange
exchanges [] = []
exchanges (t ∷ older) =
    let before = exchanges older in
    if begins t.bodies then begun_by t ∷ before else (if within (t ∷ older) then last_more t before else before)

-- The reply to Stat has counts, and what was written to the peer is, with these bytes behind it, the frame that asks for what is above them.
pub record IsQuestion (e : Exchange) (left : List ℕ) : Type 0 where
  pub lines : List SiteLine
  pub counts : AreStatistics e.statistics lines
  pub wrote : e.wrote ++ left ≡ pull_frame lines

-- The first frame that came since is that of a batch, and the requests since deliver its items, in order and each once, up to those that are left.
pub record IsAnswered (e : Exchange) (left : List Item) : Type 0 where
  pub body : List ℕ
  pub behind : List ℕ
  pub batch : Batch
  pub came : StartsWith body behind e.came
  pub spelled : SpellsReply body (BatchIs batch)
  pub delivered : e.asked ++ map delivery left ≡ map delivery (items_of batch)

-- the site told no counts: nothing was written and nothing delivered
pub record HadNoCounts (e : Exchange) : Type 0 where
  pub failed : e.failed ≡ true
  pub wrote : e.wrote ≡ []
  pub asked : e.asked ≡ []

-- there was no answer: nothing was delivered
pub record HadNoAnswer (e : Exchange) : Type 0 where
  pub failed : e.failed ≡ true
  pub unwritten : List ℕ
  pub question : IsQuestion e unwritten
  pub asked : e.asked ≡ []

-- there was an answer: all its items were delivered, and none was refused for want of room, unless something failed
pub record HadAnswer (e : Exchange) : Type 0 where
  pub question : IsQuestion e []
  pub left : List Item
  pub answered : IsAnswered e left
  pub all : ((left ≡ []) × (refused_of e.replied ≡ 0)) ⊎ (e.failed ≡ true)

-- how an exchange is over
abbrev pub IsOver : Exchange → Type 0
IsOver e = HadNoCounts e ⊎ (HadNoAnswer e ⊎ HadAnswer e)

abbrev pub AreOver : List Exchange → Type 0
AreOver [] = Unit {0}
AreOver (e ∷ es) = IsOver e × AreOver es

-- the peer was asked, and no answer came yet
pub record IsAsking (e : Exchange) (question : QuestionState) : Type 0 where
  pub asks : IsQuestion e question.left
  pub came : e.came ≡ question.came
  pub asked : e.asked ≡ []
  pub replied : e.replied ≡ []

-- these items of its answer are left, and so many were refused for want of room
pub record IsDelivered (e : Exchange) (left : List Item) (refused : ℕ) : Type 0 where
  pub question : IsQuestion e []
  pub answered : IsAnswered e left
  pub counted : refused ≡ min (refused_of e.replied) most_refused

-- what the peer stands at, with its exchanges
abbrev pub Fit : Moment → List Exchange → Type 0
Fit (Asked since question) [] = ⊥
Fit (Asked since question) (e ∷ es) = IsAsking e question × AreOver es
Fit (Delivering items connected full useful refused) [] = ⊥
Fit (Delivering items connected full useful refused) (e ∷ es) = IsDelivered e items refused × AreOver es
Fit (Away since wait) es = AreOver es
Fit (Calling since) es = AreOver es
Fit (Greeting since question) es = AreOver es
Fit (Greeted answer) es = AreOver es
Fit (Idle since wait) es = AreOver es

-- Whatever turns a peer made, its exchanges are one after another: each asked by the counts that the site told when it began, and delivered the
-- items of the answer to that, in order and each once; and one of which an item was refused for want of room failed.
abbrev pub ExchangesAreWhole : Type 0
ExchangesAreWhole = (every : ℕ) (turns : List PeerTurn) (q : Peer) → Went every turns q → Fit q.moment (exchanges turns)

-- no turn asks more than 64 requests
abbrev pub TurnsAreShort : Type 0
TurnsAreShort = (p q : Peer) (t : PeerTurn) → Moves p t.now t.bodies t.replies t.deed q t.news → length t.bodies ≤ most_a_turn

-- until so long has passed as a peer says the time says nothing
abbrev pub TimeSaysNothing : Type 0
TimeSaysNothing = (p q : Peer) (now : ℕ) (bodies replies : List (List ℕ)) (deed : Deed) → 0 < rest_of p.moment now → Moves p now bodies replies deed q Time
    → Rests p now bodies replies deed q

-- the counts that a reply to Stat told are those of the state in which it was asked
abbrev pub CountsAreCurrent : {S : Type 0} → PlainMachine S → Type 0
CountsAreCurrent m = (s t : _) (reply : List ℕ) (lines : List SiteLine) → Answers m s (by_nobody (stat ∷ [])) (reply ∷ []) t → AreStatistics reply lines
    → AreStatistics (m.reply s (0, stat)) lines

-- Where a site met a peer, its reply says so, and what was asked behind it in the turn was answered from the state to which that led.
abbrev pub TheMetWereMet : {S : Type 0} → PlainMachine S → Type 0
TheMetWereMet m = (s t : _) (introduction : List ℕ) (bodies replies : List (List ℕ)) → Answers m s (by_nobody (meeting introduction ∷ bodies)) (met ∷ replies) t
    → (m.reply s (0, meeting introduction) ≡ met) × Answers m (m.step s (0, meeting introduction)) (by_nobody bodies) replies t

-- What a peer does of what the edge tells.
use Rattle.std.specs.Prelude.{◌≡◌, ◌≢◌, ℕ, ◌+◌, ◌-◌, ◌<◌, ◌≤◌, ◌==◌, Bool, true, false, ◌&&◌, ◌||◌, not, Option, Some, None, List, [], ◌∷◌, ◌++◌, map, take, drop, min, ◌⊎◌, if◌then◌else◌}
use Rattle.tardis_base.specs.declared.records.Item.{Item}
use Rattle.tardis_base.specs.declared.replies.SiteLine.{SiteLine}
use Rattle.wire_lives.specs.declared.life_codes.TheConstants.{MET}
use Rattle.site_peers.specs.declared.deeds.Deed.{Deed}
use Rattle.site_peers.specs.declared.deeds.Deed.TheVariants.{Stay, Call, Close, Fail}
use Rattle.site_peers.specs.declared.deeds.Failure.{Failure}
use Rattle.site_peers.specs.declared.deeds.Failure.TheVariants.{NotReached, Late, Cut, LongFrame, NotMet, NotABatch, Unasked, NoCounts, NoMemory, NoRoom}
use Rattle.site_peers.specs.declared.hearing.Heard.{Heard}
use Rattle.site_peers.specs.declared.hearing.Heard.TheVariants.{More, Answer, Other}
use Rattle.site_peers.specs.declared.introductions.Introduced.{Introduced}
use Rattle.site_peers.specs.declared.introductions.Introduced.TheVariants.{More as MoreOfIt, Answer as Introduces, Other as NoIntroduction}
use Rattle.site_peers.specs.declared.moments.Moment.{Moment}
use Rattle.site_peers.specs.declared.moments.Moment.TheVariants.{Away, Calling, Greeting, Greeted, Idle, Asked, Delivering}
use Rattle.site_peers.specs.declared.peers.Peer.{Peer}
use Rattle.site_peers.specs.declared.deliveries.TheConstants.{ITEMS_A_TURN}
use Rattle.site_peers.specs.Questions.{QuestionState}
use Rattle.site_peers.specs.Asking.{stat, delivery, AreStatistics, pull_frame, any_applied, refused_of, greeting, meeting, verdict}
use Rattle.site_peers.specs.Hearing.{IsHeard}
use Rattle.site_peers.specs.Introductions.{IsIntroduced}
use Rattle.site_peers.specs.Times.{patience, first_pause, longer}

-- What the edge tells of a peer: the time alone; that the call came through; that the call failed or the connection is over; bytes that came
-- of it; or how many of the bytes that waited were written to it.
pub data News : Type 0 where
  Time : News
  Through : News
  Over : News
  Came : (bytes : List ℕ) → News
  Sent : (bytes : List ℕ) → News

-- the most items that are delivered in a turn
abbrev pub most_a_turn : ℕ
most_a_turn = ITEMS_A_TURN

-- a peer at first: it is called at once
abbrev pub fresh : ℕ → Peer
fresh every = record { every = every; pause = first_pause; last = None; moment = Away 0 0 }

-- the peer, at another moment
abbrev pub at : Peer → Moment → Peer
at p moment = record { every = p.every; pause = p.pause; last = p.last; moment = moment }

-- the peer behind an exchange that failed: it is left alone for its pause, and the next pause is longer
abbrev pub failed : Peer → (now : ℕ) → Failure → Peer
failed p now why = record { every = p.every; pause = longer p.pause; last = Some why; moment = Away now p.pause }

-- a peer whose exchange is over, with its connection or without
abbrev pub alone : (connected : Bool) → (now wait : ℕ) → Moment
alone true now wait = Idle now wait
alone false now wait = Away now wait

-- the peer behind an exchange that was done: no failure counts any more, and the next one follows at once or as often as exchanges are made
abbrev pub done : Peer → (now : ℕ) → (connected at_once : Bool) → Peer
done p now connected at_once =
    record { every = p.every; pause = first_pause; last = None; moment = alone connected now (if at_once then 0 else p.every) }

-- so many refused items are counted, and no more
abbrev pub most_refused : ℕ
most_refused = 4294967295

-- the kind of a failure: the peer is away, or something is wrong that somebody has to see to
abbrev pub kind : Failure → ℕ
kind NotReached = 0
kind Late = 0
kind Cut = 0
kind (LongFrame len) = 1
kind NotABatch = 2
kind Unasked = 3
kind NoCounts = 4
kind NoMemory = 5
kind (NoRoom records) = 6
kind (NotMet why) = 7 + why

-- whether a failure is told: unless the exchange before it failed for one of its kind
abbrev pub is_told : (last : Option Failure) → Failure → Bool
is_told None why = true
is_told (Some before) why = not (kind before == kind why)

-- The exchange failed at this time.
pub record HasFailed (p : Peer) (now : ℕ) (deed : Deed) (q : Peer) (why : Failure) : Type 0 where
  pub deed_is : deed ≡ Fail why (is_told p.last why)
  pub next : q ≡ failed p now why

-- Items were delivered at this time, this is asked of the edge, and p became q.
module _ (p : Peer) (now : ℕ) (deed : Deed) (q : Peer) where
  -- nothing is asked of the edge
  pub record GoesOn (next_is : Peer) : Type 0 where
    pub deed_is : deed ≡ Stay
    pub next : q ≡ next_is

  -- The exchange is over. Where so many items were refused for want of room it failed, and where none was it is done.
  abbrev pub Ends : (connected at_once : Bool) → (refused : ℕ) → Type 0
  Ends connected at_once refused = ((refused ≡ 0) × GoesOn (done p now connected at_once)) ⊎ ((0 < refused) × HasFailed p now deed q (NoRoom refused))

  -- With none of the items left the exchange is over, and the next one may follow at once where the batch was full and of some use.
  abbrev pub Leaves : List Item → (connected full useful : Bool) → (refused : ℕ) → Type 0
  Leaves [] connected full useful refused = Ends connected (full && useful) refused
  Leaves (item ∷ items) connected full useful refused = GoesOn (at p (Delivering (item ∷ items) connected full useful refused))

  -- so it is where items are delivered
  abbrev pub Finishes : Moment → Type 0
  Finishes (Delivering items connected full useful refused) = Leaves items connected full useful refused
  Finishes _ = GoesOn p

-- nothing was asked of the site
abbrev pub AsksNothing : (bodies replies : List (List ℕ)) → Type 0
AsksNothing bodies replies = (bodies ≡ []) × (replies ≡ [])

-- A turn of the peer p at this time: these requests were asked by actor 0 and so replied, this is asked of the edge, and p became q.
module _ (p : Peer) (now : ℕ) (bodies replies : List (List ℕ)) (deed : Deed) (q : Peer) where
  -- it failed and the site wasn't asked anything
  pub record Breaks (why : Failure) : Type 0 where
    pub none : AsksNothing bodies replies
    pub failed : HasFailed p now deed q why

  -- the reply to Stat has these counts, and the peer is to be asked for what is above them
  pub record Pulls (reply : List ℕ) : Type 0 where
    pub lines : List SiteLine
    pub counts : AreStatistics reply lines
    pub deed_is : deed ≡ Stay
    pub next : q ≡ at p (Asked now (record { left = pull_frame lines; came = [] }))

  -- the reply to Stat has no counts
  pub record TellsNone (reply : List ℕ) : Type 0 where
    pub no_counts : (lines : List SiteLine) → AreStatistics reply lines → ⊥
    pub failed : HasFailed p now deed q NoCounts

  -- the site was asked Stat, and by its reply the peer is
  pub record Asks : Type 0 where
    pub reply : List ℕ
    pub asked : bodies ≡ stat ∷ []
    pub replied : replies ≡ reply ∷ []
    pub way : Pulls reply ⊎ TellsNone reply

  -- so it is, or there was no memory for the question
  abbrev pub MayAsk : Type 0
  MayAsk = Asks ⊎ Breaks NoMemory

  -- by this verdict the site met the peer, which is asked; or it didn't, and nothing more is asked of either
  abbrev pub GoesBy : (verdict_is : ℕ) → Type 0
  GoesBy verdict_is = ((verdict_is ≡ MET) × MayAsk) ⊎ ((verdict_is ≢ MET) × Breaks (NotMet verdict_is))

-- First the site was asked to meet the peer of this introduction, and by its verdict the turn goes on.
pub record Meets (p : Peer) (now : ℕ) (bodies replies : List (List ℕ)) (deed : Deed) (q : Peer) (introduction : List ℕ) : Type 0 where
  pub reply : List ℕ
  pub more : List (List ℕ)
  pub told : List (List ℕ)
  pub asked : bodies ≡ meeting introduction ∷ more
  pub replied : replies ≡ reply ∷ told
  pub goes : GoesBy p now more told deed q (verdict reply)

-- Such a turn, by what the edge tells and where the peer stands.
module _ (p : Peer) (now : ℕ) (bodies replies : List (List ℕ)) (deed : Deed) (q : Peer) where
  abbrev pub Fails : Failure → Type 0
  Fails why = Breaks p now bodies replies deed q why

  -- nothing is done
  pub record Rests : Type 0 where
    pub none : AsksNothing bodies replies
    pub deed_is : deed ≡ Stay
    pub same : q ≡ p

  -- this is asked of the edge, and the moment is another
  pub record Becomes (d : Deed) (moment : Moment) : Type 0 where
    pub none : AsksNothing bodies replies
    pub deed_is : deed ≡ d
    pub next : q ≡ at p moment

  -- once so long has passed P, and until then nothing
  abbrev pub Once : (since wait : ℕ) → Type 0 → Type 0
  Once since wait P = ((wait ≤ now - since) × P) ⊎ ((now - since < wait) × Rests)

  -- the peer is to be asked for its introduction, or there was no memory for the question
  abbrev pub MayGreet : Type 0
  MayGreet = Becomes Stay (Greeting now (record { left = greeting; came = [] })) ⊎ Fails NoMemory

  -- the first items were delivered, in order, and the others are left
  pub record Delivers (items : List Item) (connected full useful : Bool) (refused : ℕ) : Type 0 where
    pub asked : bodies ≡ map delivery (take most_a_turn items)
    pub leaves : Leaves p now deed q (drop most_a_turn items) connected full (useful || any_applied replies)
        (min (refused + refused_of replies) most_refused)

  -- what the time says
  abbrev pub OnTime : Moment → Type 0
  OnTime (Away since wait) = Once since wait (Becomes Call (Calling now))
  OnTime (Calling since) = Once since patience (Fails Late)
  OnTime (Greeting since question) = Once since patience (Fails Late)
  OnTime (Greeted answer) = Meets p now bodies replies deed q answer
  OnTime (Idle since wait) = Once since wait (MayAsk p now bodies replies deed q)
  OnTime (Asked since question) = Once since patience (Fails Late)
  OnTime (Delivering items connected full useful refused) = Delivers items connected full useful refused

  -- the call came through
  abbrev pub OnThrough : Moment → Type 0
  OnThrough (Calling since) = MayGreet
  OnThrough _ = Rests

  -- The call failed, or the connection is over. What was heard before is delivered all the same, and a connection that is over while nothing is
  -- asked is no failure.
  abbrev pub OnOver : Moment → Type 0
  OnOver (Away since wait) = Rests
  OnOver (Calling since) = Fails NotReached
  OnOver (Greeting since question) = Fails Cut
  OnOver (Greeted answer) = Fails Cut
  OnOver (Idle since wait) = Becomes Close (Away since wait)
  OnOver (Asked since question) = Fails Cut
  OnOver (Delivering items true full useful refused) = Becomes Close (Delivering items false full useful refused)
  OnOver (Delivering items false full useful refused) = Rests

  abbrev pub Learns : (since : ℕ) → Introduced → Type 0
  Learns since (MoreOfIt question) = Becomes Stay (Greeting since question)
  Learns since (Introduces answer) = Becomes Stay (Greeted answer)
  Learns since (NoIntroduction why) = Fails why

  -- all that came since the question for an introduction is this
  pub record Greets (since : ℕ) (left came : List ℕ) : Type 0 where
    pub introduced : Introduced
    pub is : IsIntroduced left came introduced
    pub learns : Learns since introduced

  -- an introduction that came before the question was written whole wasn't asked for
  abbrev pub GreetsOf : (since : ℕ) → (left came : List ℕ) → Type 0
  GreetsOf since [] came = Greets since [] came
  GreetsOf since (byte ∷ left) came = Fails Unasked

  abbrev pub Uses : (since : ℕ) → Heard → Type 0
  Uses since (More question) = Becomes Stay (Asked since question)
  Uses since (Answer items full) = Becomes Stay (Delivering items true full false 0)
  Uses since (Other why) = Fails why

  -- all that came since the question is this
  pub record Hears (since : ℕ) (left came : List ℕ) : Type 0 where
    pub heard : Heard
    pub is : IsHeard left came heard
    pub uses : Uses since heard

  -- an answer to a question that wasn't written whole wasn't asked for
  abbrev pub HearsOf : (since : ℕ) → (left came : List ℕ) → Type 0
  HearsOf since [] came = Hears since [] came
  HearsOf since (byte ∷ left) came = Fails Unasked

  -- bytes came
  abbrev pub OnBytes : List ℕ → Moment → Type 0
  OnBytes bytes (Away since wait) = Rests
  OnBytes bytes (Calling since) = Rests
  OnBytes bytes (Greeting since question) = GreetsOf since question.left (question.came ++ bytes)
  OnBytes bytes (Greeted answer) = Fails Unasked
  OnBytes bytes (Idle since wait) = Fails Unasked
  OnBytes bytes (Asked since question) = HearsOf since question.left (question.came ++ bytes)
  OnBytes bytes (Delivering items true full useful refused) = Fails Unasked
  OnBytes bytes (Delivering items false full useful refused) = Rests

  abbrev pub OnCame : List ℕ → Moment → Type 0
  OnCame [] moment = Rests
  OnCame (byte ∷ bytes) moment = OnBytes (byte ∷ bytes) moment

  -- a front of the question was written, and the moment goes on with the rest of it
  pub record Writes (Asking : QuestionState → Moment) (question : QuestionState) (bytes : List ℕ) : Type 0 where
    pub left : List ℕ
    pub front : question.left ≡ bytes ++ left
    pub becomes : Becomes Stay (Asking (record { left = left; came = question.came }))

  -- where nothing is asked no bytes wait
  pub record WritesNone (bytes : List ℕ) : Type 0 where
    pub none_waits : bytes ≡ []
    pub rests : Rests

  -- bytes were written
  abbrev pub OnSent : List ℕ → Moment → Type 0
  OnSent bytes (Greeting since question) = Writes (Greeting since) question bytes
  OnSent bytes (Asked since question) = Writes (Asked since) question bytes
  OnSent bytes _ = WritesNone bytes

  -- what the peer does of what the edge tells
  abbrev pub Moves : News → Type 0
  Moves Time = OnTime p.moment
  Moves Through = OnThrough p.moment
  Moves Over = OnOver p.moment
  Moves (Came bytes) = OnCame bytes p.moment
  Moves (Sent bytes) = OnSent bytes p.moment

-- the peer has a connection
abbrev pub has_connection : Moment → Bool
has_connection (Greeting since question) = true
has_connection (Greeted answer) = true
has_connection (Idle since wait) = true
has_connection (Asked since question) = true
has_connection (Delivering items connected full useful refused) = connected
has_connection _ = false

abbrev pub is_called : Moment → Bool
is_called (Calling since) = true
is_called _ = false

-- the bytes that are to be written to the peer
abbrev pub waiting : Moment → List ℕ
waiting (Greeting since question) = question.left
waiting (Asked since question) = question.left
waiting _ = []

-- bytes of the peer are read: it is greeted or asked, or it has a connection and nothing is asked of it
abbrev pub listens : Moment → Bool
listens (Greeting since question) = true
listens (Idle since wait) = true
listens (Asked since question) = true
listens _ = false

-- how long it is until the time says anything
abbrev pub rest_of : Moment → (now : ℕ) → ℕ
rest_of (Away since wait) now = wait - (now - since)
rest_of (Calling since) now = patience - (now - since)
rest_of (Greeting since question) now = patience - (now - since)
rest_of (Greeted answer) now = 0
rest_of (Idle since wait) now = wait - (now - since)
rest_of (Asked since question) now = patience - (now - since)
rest_of (Delivering items connected full useful refused) now = 0

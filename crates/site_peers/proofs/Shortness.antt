-- How much a turn asks, and when it does nothing.
use Rattle.std.proofs.Common.{◌≡◌, ℕ, ◌<◌, ◌≤◌, true, false, List, [], ◌∷◌, ◌++◌, length, take, inl, inr, ap, arith}
use Rattle.std.proofs.lemmas.List.{length-map}
use Rattle.site_peers.specs.declared.deeds.Deed.{Deed}
use Rattle.site_peers.specs.declared.moments.Moment.{Moment}
use Rattle.site_peers.specs.declared.moments.Moment.TheVariants.{Away, Calling, Greeting, Greeted, Idle, Asked, Delivering}
use Rattle.site_peers.specs.declared.peers.Peer.{Peer}
use Rattle.site_peers.specs.Asking.{delivery, meeting, verdict}
use Rattle.site_peers.specs.Moves.{News, Time, Through, Over, Came, Sent, most_a_turn, Rests, MayAsk, GoesBy, HearsOf, GreetsOf, Learns, Moves, OnTime, OnThrough, OnOver, OnCame, OnBytes, OnSent, rest_of}
use Rattle.site_peers.specs.Moves.{Uses}
use Rattle.site_peers.specs.declared.introductions.Introduced.{Introduced}
use Rattle.site_peers.specs.declared.introductions.Introduced.TheVariants.{More as MoreOfIt, Answer as Introduces, Other as NoIntroduction}
use Rattle.site_peers.specs.declared.hearing.Heard.{Heard}
use Rattle.site_peers.specs.declared.hearing.Heard.TheVariants.{More, Answer, Other}
use Rattle.site_peers.specs.Runs.{TurnsAreShort, TimeSaysNothing}

take_few : {X : Type 0} (n : ℕ) (xs : List X) → length (take n xs) ≤ n
take_few ℕ.zero xs = omega arith
take_few (ℕ.suc n) [] = omega arith
take_few (ℕ.suc n) (x ∷ xs) = omega (arith, take_few n xs)

none_few : (bodies : List (List ℕ)) → bodies ≡ [] → length bodies ≤ most_a_turn
none_few bodies none = omega (arith, ap length none)

module _ (p : Peer) (now : ℕ) (bodies replies : List (List ℕ)) (deed : Deed) (q : Peer) where
  ask_few : MayAsk p now bodies replies deed q → length bodies ≤ most_a_turn
  ask_few (inl a) = omega (arith, ap length a.asked)
  ask_few (inr b) = none_few bodies b.none.0

  meet_few : (introduction : List ℕ) (more told : List (List ℕ)) (n : ℕ) → bodies ≡ meeting introduction ∷ more → GoesBy p now more told deed q n →
      length bodies ≤ most_a_turn
  meet_few introduction more told n asked (inl (is, inl a)) = omega (arith, ap length asked, ap length a.asked)
  meet_few introduction more told n asked (inl (is, inr b)) = omega (arith, ap length asked, ap length b.none.0)
  meet_few introduction more told n asked (inr (other, b)) = omega (arith, ap length asked, ap length b.none.0)

  time_few : (moment : Moment) → OnTime p now bodies replies deed q moment → length bodies ≤ most_a_turn
  time_few (Away since wait) (inl m) = none_few bodies m.1.none.0
  time_few (Away since wait) (inr m) = none_few bodies m.1.none.0
  time_few (Calling since) (inl m) = none_few bodies m.1.none.0
  time_few (Calling since) (inr m) = none_few bodies m.1.none.0
  time_few (Greeting since question) (inl m) = none_few bodies m.1.none.0
  time_few (Greeting since question) (inr m) = none_few bodies m.1.none.0
  time_few (Greeted answer) m = meet_few answer m.more m.told (verdict m.reply) m.asked m.goes
  time_few (Idle since wait) (inl m) = ask_few m.1
  time_few (Idle since wait) (inr m) = none_few bodies m.1.none.0
  time_few (Asked since question) (inl m) = none_few bodies m.1.none.0
  time_few (Asked since question) (inr m) = none_few bodies m.1.none.0
  time_few (Delivering items connected full useful refused) m =
      omega (arith, ap length m.asked, length-map (take most_a_turn items) delivery, take_few most_a_turn items)

  through_few : (moment : Moment) → OnThrough p now bodies replies deed q moment → length bodies ≤ most_a_turn
  through_few (Calling since) (inl m) = none_few bodies m.none.0
  through_few (Calling since) (inr m) = none_few bodies m.none.0
  through_few (Greeting since question) m = none_few bodies m.none.0
  through_few (Greeted answer) m = none_few bodies m.none.0
  through_few (Away since wait) m = none_few bodies m.none.0
  through_few (Idle since wait) m = none_few bodies m.none.0
  through_few (Asked since question) m = none_few bodies m.none.0
  through_few (Delivering items connected full useful refused) m = none_few bodies m.none.0

  over_few : (moment : Moment) → OnOver p now bodies replies deed q moment → length bodies ≤ most_a_turn
  over_few (Away since wait) m = none_few bodies m.none.0
  over_few (Calling since) m = none_few bodies m.none.0
  over_few (Greeting since question) m = none_few bodies m.none.0
  over_few (Greeted answer) m = none_few bodies m.none.0
  over_few (Idle since wait) m = none_few bodies m.none.0
  over_few (Asked since question) m = none_few bodies m.none.0
  over_few (Delivering items true full useful refused) m = none_few bodies m.none.0
  over_few (Delivering items false full useful refused) m = none_few bodies m.none.0

  uses_few : (since : ℕ) (heard : Heard) → Uses p now bodies replies deed q since heard → length bodies ≤ most_a_turn
  uses_few since (More question) m = none_few bodies m.none.0
  uses_few since (Answer items full) m = none_few bodies m.none.0
  uses_few since (Other why) m = none_few bodies m.none.0

  hears_few : (since : ℕ) (left came : List ℕ) → HearsOf p now bodies replies deed q since left came → length bodies ≤ most_a_turn
  hears_few since [] came m = uses_few since m.heard m.uses
  hears_few since (byte ∷ left) came m = none_few bodies m.none.0

  learns_few : (since : ℕ) (introduced : Introduced) → Learns p now bodies replies deed q since introduced → length bodies ≤ most_a_turn
  learns_few since (MoreOfIt question) m = none_few bodies m.none.0
  learns_few since (Introduces answer) m = none_few bodies m.none.0
  learns_few since (NoIntroduction why) m = none_few bodies m.none.0

  greets_few : (since : ℕ) (left came : List ℕ) → GreetsOf p now bodies replies deed q since left came → length bodies ≤ most_a_turn
  greets_few since [] came m = learns_few since m.introduced m.learns
  greets_few since (byte ∷ left) came m = none_few bodies m.none.0

  bytes_few : (bytes : List ℕ) (moment : Moment) → OnBytes p now bodies replies deed q bytes moment → length bodies ≤ most_a_turn
  bytes_few bytes (Away since wait) m = none_few bodies m.none.0
  bytes_few bytes (Calling since) m = none_few bodies m.none.0
  bytes_few bytes (Greeting since question) m = greets_few since question.left (question.came ++ bytes) m
  bytes_few bytes (Greeted answer) m = none_few bodies m.none.0
  bytes_few bytes (Idle since wait) m = none_few bodies m.none.0
  bytes_few bytes (Asked since question) m = hears_few since question.left (question.came ++ bytes) m
  bytes_few bytes (Delivering items true full useful refused) m = none_few bodies m.none.0
  bytes_few bytes (Delivering items false full useful refused) m = none_few bodies m.none.0

  came_few : (bytes : List ℕ) (moment : Moment) → OnCame p now bodies replies deed q bytes moment → length bodies ≤ most_a_turn
  came_few [] moment m = none_few bodies m.none.0
  came_few (byte ∷ bytes) moment m = bytes_few (byte ∷ bytes) moment m

  sent_few : (bytes : List ℕ) (moment : Moment) → OnSent p now bodies replies deed q bytes moment → length bodies ≤ most_a_turn
  sent_few bytes (Greeting since question) m = none_few bodies m.becomes.none.0
  sent_few bytes (Greeted answer) m = none_few bodies m.rests.none.0
  sent_few bytes (Asked since question) m = none_few bodies m.becomes.none.0
  sent_few bytes (Away since wait) m = none_few bodies m.rests.none.0
  sent_few bytes (Calling since) m = none_few bodies m.rests.none.0
  sent_few bytes (Idle since wait) m = none_few bodies m.rests.none.0
  sent_few bytes (Delivering items connected full useful refused) m = none_few bodies m.rests.none.0

  few : (news : News) → Moves p now bodies replies deed q news → length bodies ≤ most_a_turn
  few Time m = time_few p.moment m
  few Through m = through_few p.moment m
  few Over m = over_few p.moment m
  few (Came bytes) m = came_few bytes p.moment m
  few (Sent bytes) m = sent_few bytes p.moment m

  says_nothing : (moment : Moment) → 0 < rest_of moment now → OnTime p now bodies replies deed q moment → Rests p now bodies replies deed q
  says_nothing (Away since wait) some (inl m) = absurd (omega (arith, some, m.0))
  says_nothing (Away since wait) some (inr m) = m.1
  says_nothing (Calling since) some (inl m) = absurd (omega (arith, some, m.0))
  says_nothing (Calling since) some (inr m) = m.1
  says_nothing (Greeting since question) some (inl m) = absurd (omega (arith, some, m.0))
  says_nothing (Greeting since question) some (inr m) = m.1
  says_nothing (Greeted answer) some m = absurd (omega (arith, some))
  says_nothing (Idle since wait) some (inl m) = absurd (omega (arith, some, m.0))
  says_nothing (Idle since wait) some (inr m) = m.1
  says_nothing (Asked since question) some (inl m) = absurd (omega (arith, some, m.0))
  says_nothing (Asked since question) some (inr m) = m.1
  says_nothing (Delivering items connected full useful refused) some m = absurd (omega (arith, some))

pub turns_are_short : TurnsAreShort
turns_are_short p q t m = few p t.now t.bodies t.replies t.deed q t.news m

pub time_says_nothing : TimeSaysNothing
time_says_nothing p q now bodies replies deed some m = says_nothing p now bodies replies deed q p.moment some m

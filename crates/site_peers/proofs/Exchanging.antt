-- Exchanges, turn by turn.
use Rattle.std.proofs.Common.{◌≡◌, ◌∙◌, ℕ, Bool, true, false, List, [], ◌∷◌, ◌++◌, map, take, drop, ◌⊎◌, min, ◌+◌, length, arith, inl, inr, refl, ap, sym, subst, append_assoc}
use Rattle.std.specs.Prelude.{◌||◌, ◌&&◌, filter, if◌then◌else◌}
use Rattle.std.proofs.lemmas.List.{append-nil, map-append, take-append-drop, length-append}
use Rattle.std.proofs.lemmas.List.Elements.{filter-append}
use Rattle.tardis_base.specs.declared.records.Item.{Item}
use Rattle.frame_cut.specs.Frames.{frame}
use Rattle.site_peers.specs.declared.deeds.Deed.{Deed}
use Rattle.site_peers.specs.declared.deeds.Deed.TheVariants.{Stay, Call, Close, Fail}
use Rattle.site_peers.specs.declared.deeds.Failure.{Failure}
use Rattle.site_peers.specs.declared.deeds.Failure.TheVariants.{NotReached, Late, Cut, NotMet, Unasked, NoCounts, NoMemory}
use Rattle.site_peers.specs.declared.hearing.Heard.{Heard}
use Rattle.site_peers.specs.declared.hearing.Heard.TheVariants.{More, Answer, Other}
use Rattle.site_peers.specs.declared.introductions.Introduced.{Introduced}
use Rattle.site_peers.specs.declared.introductions.Introduced.TheVariants.{More as MoreOfIt, Answer as Introduces, Other as NoIntroduction}
use Rattle.site_peers.specs.declared.moments.Moment.{Moment}
use Rattle.site_peers.specs.declared.moments.Moment.TheVariants.{Away, Calling, Greeting, Greeted, Idle, Asked, Delivering}
use Rattle.site_peers.specs.declared.peers.Peer.{Peer}
use Rattle.site_peers.specs.Questions.{QuestionState}
use Rattle.site_peers.specs.Asking.{stat, delivery, AreStatistics, any_applied, lacks_room, refused_of, meeting, verdict}
use Rattle.site_peers.specs.Hearing.{StartsWith, IsHeard}
use Rattle.site_peers.specs.Moves.{is_told, News, Time, Through, Over, Came, Sent, most_a_turn, most_refused, alone, AsksNothing, Leaves, Rests, Becomes, Breaks, Asks, MayAsk, GoesBy, Delivers, HearsOf, Uses, GreetsOf, Learns, WritesNone, Moves}
use Rattle.site_peers.specs.Moves.{OnTime, OnThrough, OnOver, OnCame, OnBytes, OnSent}
use Rattle.site_peers.specs.Runs.{PeerTurn, Went, Exchange, wrote_in, came_in, is_failure, is_call, more_of, begun_by, told_of, begins, within, last_more, exchanges, IsQuestion, IsAnswered, IsOver, AreOver, IsAsking, IsDelivered, Fit}

-- whether an exchange goes on after a turn more, and the exchanges then
abbrev goes_on : PeerTurn → Bool → Bool
goes_on t on = if begins t.bodies then true else (if is_call t.deed then false else on)

abbrev later : PeerTurn → Bool → List Exchange → List Exchange
later t on es = if on then last_more t es else es

abbrev next : PeerTurn → Bool → List Exchange → List Exchange
next t on es = if begins t.bodies then begun_by t ∷ es else later t (goes_on t on) es

-- what the peer stands at, with its exchanges, and whether one goes on
abbrev Fits : Moment → Bool → List Exchange → Type 0
Fits (Asked since question) false es = ⊥
Fits (Asked since question) true [] = ⊥
Fits (Asked since question) true (e ∷ es) = IsAsking e question × AreOver es
Fits (Delivering items connected full useful refused) false es = ⊥
Fits (Delivering items connected full useful refused) true [] = ⊥
Fits (Delivering items connected full useful refused) true (e ∷ es) = IsDelivered e items refused × AreOver es
Fits (Calling since) true es = ⊥
Fits (Calling since) false es = AreOver es
Fits (Greeting since question) true es = ⊥
Fits (Greeting since question) false es = AreOver es
Fits (Greeted answer) true es = ⊥
Fits (Greeted answer) false es = AreOver es
Fits (Away since wait) on es = AreOver es
Fits (Idle since wait) on es = AreOver es

-- a turn that asks nothing, and isn't a call, leaves it as it is whether an exchange goes on
same_on : (t : PeerTurn) (on : Bool) → t.bodies ≡ [] → is_call t.deed ≡ false → goes_on t on ≡ on
same_on t on none other =
    ap (λ bodies. if begins bodies then true else (if is_call t.deed then false else on)) none ∙ ap (λ c. if c then false else on) other

same_exchange : (t : PeerTurn) (on : Bool) (es : List Exchange) → t.bodies ≡ [] → is_call t.deed ≡ false → next t on es ≡ later t on es
same_exchange t on es none other =
    ap (λ bodies. if begins bodies then begun_by t ∷ es else later t (goes_on t on) es) none ∙ ap (λ c. later t c es) (same_on t on none other)

still_failed : (a b : Bool) → a ≡ true → (a || b) ≡ true
still_failed a b is = ap (λ x. x || b) is

now_failed : (a b : Bool) → b ≡ true → (a || b) ≡ true
now_failed true b is = refl
now_failed false b is = is

failure : (deed : Deed) (why : Failure) (told : Bool) → deed ≡ Fail why told → is_failure deed ≡ true
failure deed why told is = ap is_failure is

-- what a turn adds to the parts of an exchange
module _ (t : PeerTurn) (e : Exchange) where
  none_asked : t.bodies ≡ [] → (more_of t e).asked ≡ e.asked
  none_asked none = ap (λ bodies. e.asked ++ bodies) none ∙ append-nil e.asked

  none_replied : t.replies ≡ [] → (more_of t e).replied ≡ e.replied
  none_replied none = ap (λ replies. e.replied ++ replies) none ∙ append-nil e.replied

  question_more : (left rest : List ℕ) → left ≡ wrote_in t.news ++ rest → IsQuestion e left → IsQuestion (more_of t e) rest
  question_more left rest front q = record {
    lines = q.lines;
    counts = q.counts;
    wrote = append_assoc e.wrote (wrote_in t.news) rest ∙ (ap (λ z. e.wrote ++ z) (sym front) ∙ q.wrote);
  }

  came_more : (body behind : List ℕ) → StartsWith body behind e.came → StartsWith body (behind ++ came_in t.news) (more_of t e).came
  came_more body behind s = record {
    is_body = s.is_body;
    whole = ap (λ z. z ++ came_in t.news) s.whole ∙ append_assoc (frame body) behind (came_in t.news);
  }

  -- some of the items that were left were delivered
  answered_more : (left rest done : List Item) → t.bodies ≡ map delivery done → left ≡ done ++ rest → IsAnswered e left → IsAnswered (more_of t e) rest
  answered_more left rest done asked front a = record {
    body = a.body;
    behind = a.behind ++ came_in t.news;
    batch = a.batch;
    came = came_more a.body a.behind a.came;
    spelled = a.spelled;
    delivered = ap (λ z. (e.asked ++ z) ++ map delivery rest) asked
        ∙ (append_assoc e.asked (map delivery done) (map delivery rest)
        ∙ (ap (λ z. e.asked ++ z) (sym (map-append delivery done rest) ∙ ap (map delivery) (sym front)) ∙ a.delivered));
  }

  answered_same : (left : List Item) → t.bodies ≡ [] → IsAnswered e left → IsAnswered (more_of t e) left
  answered_same left none a = answered_more left left [] none refl a

  over_more : AsksNothing t.bodies t.replies → wrote_in t.news ≡ [] → IsOver e → IsOver (more_of t e)
  over_more (none, silent) wrote (inl a) = inl (record {
    failed = still_failed e.failed (is_failure t.deed) a.failed;
    wrote = ap (λ z. e.wrote ++ z) wrote ∙ (append-nil e.wrote ∙ a.wrote);
    asked = none_asked none ∙ a.asked;
  })
  over_more (none, silent) wrote (inr (inl a)) = inr (inl (record {
    failed = still_failed e.failed (is_failure t.deed) a.failed;
    unwritten = a.unwritten;
    question = question_more a.unwritten a.unwritten (ap (λ z. z ++ a.unwritten) (sym wrote)) a.question;
    asked = none_asked none ∙ a.asked;
  }))
  over_more (none, silent) wrote (inr (inr a)) = inr (inr (record {
    question = question_more [] [] (ap (λ z. z ++ []) (sym wrote)) a.question;
    left = a.left;
    answered = answered_same a.left none a.answered;
    all = elim a.all as (λ _. ((a.left ≡ []) × (refused_of (e.replied ++ t.replies) ≡ 0)) ⊎ ((e.failed || is_failure t.deed) ≡ true)) [
      | inl no_more ↦ inl (no_more.0, ap refused_of (none_replied silent) ∙ no_more.1)
      | inr f ↦ inr (still_failed e.failed (is_failure t.deed) f)
    ];
  }))

  -- a question that failed
  asking_failed : (question : QuestionState) (why : Failure) (told : Bool) → t.bodies ≡ [] → wrote_in t.news ≡ [] → t.deed ≡ Fail why told → IsAsking e question →
      IsOver (more_of t e)
  asking_failed question why told none wrote deed a = inr (inl (record {
    failed = now_failed e.failed (is_failure t.deed) (failure t.deed why told deed);
    unwritten = question.left;
    question = question_more question.left question.left (ap (λ z. z ++ question.left) (sym wrote)) a.asks;
    asked = none_asked none ∙ a.asked;
  }))

  -- an answer that wasn't delivered whole
  delivered_failed : (left : List Item) (refused : ℕ) (why : Failure) (told : Bool) → t.bodies ≡ [] → wrote_in t.news ≡ [] → t.deed ≡ Fail why told →
      IsDelivered e left refused → IsOver (more_of t e)
  delivered_failed left refused why told none wrote deed d = inr (inr (record {
    question = question_more [] [] (ap (λ z. z ++ []) (sym wrote)) d.question;
    left = left;
    answered = answered_same left none d.answered;
    all = inr (now_failed e.failed (is_failure t.deed) (failure t.deed why told deed));
  }))

  delivered_same : (left : List Item) (refused : ℕ) → AsksNothing t.bodies t.replies → wrote_in t.news ≡ [] → IsDelivered e left refused →
      IsDelivered (more_of t e) left refused
  delivered_same left refused (none, silent) wrote d = record {
    question = question_more [] [] (ap (λ z. z ++ []) (sym wrote)) d.question;
    answered = answered_same left none d.answered;
    counted = d.counted ∙ ap (λ z. min (refused_of z) most_refused) (sym (none_replied silent));
  }

  asking_same : (question : QuestionState) → AsksNothing t.bodies t.replies → wrote_in t.news ≡ [] → came_in t.news ≡ [] → IsAsking e question → IsAsking (more_of t e) question
  asking_same question (none, silent) wrote came a = record {
    asks = question_more question.left question.left (ap (λ z. z ++ question.left) (sym wrote)) a.asks;
    came = ap (λ z. e.came ++ z) came ∙ (append-nil e.came ∙ a.came);
    asked = none_asked none ∙ a.asked;
    replied = none_replied silent ∙ a.replied;
  }

-- the exchanges that are over stay over
all_over : (t : PeerTurn) (on : Bool) (es : List Exchange) → AsksNothing t.bodies t.replies → wrote_in t.news ≡ [] → AreOver es → AreOver (later t on es)
all_over t false es none wrote o = o
all_over t true [] none wrote o = tt
all_over t true (e ∷ es) none wrote o = (over_more t e none wrote o.0, o.1)

-- deliveries are no Stat
begins_none : (items : List Item) → begins (map delivery items) ≡ false
begins_none [] = refl
begins_none (item ∷ items) = begins_none items

abbrev turn_of : (now : ℕ) → News → (bodies replies : List (List ℕ)) → Deed → PeerTurn
turn_of now news bodies replies deed = record { now = now; news = news; bodies = bodies; replies = replies; deed = deed }

-- with a connection or without, no exchange goes on
over_alone : (connected : Bool) (now wait : ℕ) (es : List Exchange) → AreOver es → Fits (alone connected now wait) true es
over_alone true now wait es over = over
over_alone false now wait es over = over

refused_append : (xs ys : List (List ℕ)) → refused_of (xs ++ ys) ≡ refused_of xs + refused_of ys
refused_append xs ys = ap length (filter-append lacks_room xs ys) ∙ length-append (filter lacks_room xs) (filter lacks_room ys)

counted_more : (refused : ℕ) (xs ys : List (List ℕ)) → refused ≡ min (refused_of xs) most_refused →
    min (refused + refused_of ys) most_refused ≡ min (refused_of (xs ++ ys)) most_refused
counted_more refused xs ys is = omega (arith, is, refused_append xs ys)

none_refused : (refused : ℕ) (xs : List (List ℕ)) → refused ≡ min (refused_of xs) most_refused → refused ≡ 0 → refused_of xs ≡ 0
none_refused refused xs is none = omega (arith, is, none)

module _ (p : Peer) (now : ℕ) (bodies replies : List (List ℕ)) (deed : Deed) (q : Peer) (news : News) where
  abbrev t : PeerTurn
  t = turn_of now news bodies replies deed

  -- what is to be shown of a turn
  abbrev Stays : Bool → List Exchange → Type 0
  Stays on es = Fits q.moment (goes_on t on) (next t on es)

  -- a turn that asks nothing, after which the peer stands at this moment
  settled : (on : Bool) (es : List Exchange) (moment : Moment) (d : Deed) → bodies ≡ [] → deed ≡ d → is_call d ≡ false → q.moment ≡ moment →
      Fits moment on (later t on es) → Stays on es
  settled on es moment d none is other stands fit =
      let no_call : is_call deed ≡ false = ap is_call is ∙ other in
      subst (λ m. Fits m (goes_on t on) (next t on es)) (sym stands)
      (subst (λ b. Fits moment b (next t on es)) (sym (same_on t on none no_call))
      (subst (λ z. Fits moment on z) (sym (same_exchange t on es none no_call)) fit))

  rested : (moment : Moment) (on : Bool) (es : List Exchange) → p.moment ≡ moment → Rests p now bodies replies deed q → Fits moment on (later t on es) →
      Stays on es
  rested moment on es is r fit = settled on es moment Stay r.none.0 r.deed_is refl (ap (λ (x : Peer). x.moment) r.same ∙ is) fit

  became : (d : Deed) (moment : Moment) (on : Bool) (es : List Exchange) → is_call d ≡ false → Becomes p now bodies replies deed q d moment →
      Fits moment on (later t on es) → Stays on es
  became d moment on es other b fit = settled on es moment d b.none.0 b.deed_is other (ap (λ (x : Peer). x.moment) b.next) fit

  broke : (why : Failure) (on : Bool) (es : List Exchange) → Breaks p now bodies replies deed q why → AreOver (later t on es) → Stays on es
  broke why on es b over =
      settled on es (Away now p.pause) (Fail why (is_told p.last why)) b.none.0 b.failed.deed_is refl (ap (λ (x : Peer). x.moment) b.failed.next) over

  -- the peer is called
  called : (on : Bool) (es : List Exchange) → AreOver es → Becomes p now bodies replies deed q Call (Calling now) → Stays on es
  called on es over b =
      let off : goes_on t on ≡ false =
      ap (λ z. if begins z then true else (if is_call deed then false else on)) b.none.0 ∙ ap (λ d. if is_call d then false else on) b.deed_is in
      let same : next t on es ≡ es =
      ap (λ z. if begins z then begun_by t ∷ es else later t (goes_on t on) es) b.none.0 ∙ ap (λ c. later t c es) off in
      subst (λ m. Fits m (goes_on t on) (next t on es)) (sym (ap (λ (x : Peer). x.moment) b.next))
      (subst (λ c. Fits (Calling now) c (next t on es)) (sym off) (subst (λ z. AreOver z) (sym same) over))

  -- an exchange began, or couldn't
  began : (more told : List (List ℕ)) (es : List Exchange) → AreOver es → (a : Asks p now more told deed q) → told_of bodies replies ≡ a.reply →
      Fits q.moment true (begun_by t ∷ es)
  began more told es over a is =
      elim a.way as (λ _. Fits q.moment true (begun_by t ∷ es)) [
        | inl pulls ↦ subst (λ m. Fits m true (begun_by t ∷ es)) (sym (ap (λ (x : Peer). x.moment) pulls.next)) (
          record {
            asks = record { lines = pulls.lines; counts = subst (λ z. AreStatistics z pulls.lines) (sym is) pulls.counts; wrote = refl };
            came = refl;
            asked = refl;
            replied = refl;
          },
          over,
        )
        | inr none ↦ subst (λ m. Fits m true (begun_by t ∷ es)) (sym (ap (λ (x : Peer). x.moment) none.failed.next)) (
          inl (record {
            failed = failure deed NoCounts (is_told p.last NoCounts) none.failed.deed_is;
            wrote = refl;
            asked = refl;
          }),
          over,
        )
      ]

  -- so it is where Stat is among the requests
  begun : (on : Bool) (es : List Exchange) → begins bodies ≡ true → Fits q.moment true (begun_by t ∷ es) → Stays on es
  begun on es stat_in fit =
      let same : next t on es ≡ begun_by t ∷ es = ap (λ b. if b then begun_by t ∷ es else later t (goes_on t on) es) stat_in in
      subst (λ c. Fits q.moment c (next t on es)) (sym (ap (λ b. if b then true else (if is_call deed then false else on)) stat_in))
      (subst (λ z. Fits q.moment true z) (sym same) fit)

  may_ask : (on : Bool) (es : List Exchange) → AreOver es → wrote_in news ≡ [] → MayAsk p now bodies replies deed q → Stays on es
  may_ask on es over wrote (inl a) =
      begun on es (ap begins a.asked)
      (began bodies replies es over a (ap (λ z. told_of z replies) a.asked ∙ ap (λ z. told_of (stat ∷ []) z) a.replied))
  may_ask on es over wrote (inr b) = broke NoMemory on es b (all_over t on es b.none wrote over)

  -- the site was asked to meet the peer, and nothing behind that
  met_only : (introduction : List ℕ) (more told : List (List ℕ)) (why : Failure) (es : List Exchange) → AreOver es → bodies ≡ meeting introduction ∷ more →
      Breaks p now more told deed q why → Stays false es
  met_only introduction more told why es over asked b =
      let only : bodies ≡ meeting introduction ∷ [] = asked ∙ ap (λ z. meeting introduction ∷ z) b.none.0 in
      let off : goes_on t false ≡ false =
      ap (λ z. if begins z then true else (if is_call deed then false else false)) only
      ∙ ap (λ d. if is_call d then false else false) b.failed.deed_is in
      let same : next t false es ≡ es =
      ap (λ z. if begins z then begun_by t ∷ es else later t (goes_on t false) es) only ∙ ap (λ c. later t c es) off in
      subst (λ m. Fits m (goes_on t false) (next t false es)) (sym (ap (λ (x : Peer). x.moment) b.failed.next))
      (subst (λ z. AreOver z) (sym same) over)

  went_by : (introduction reply : List ℕ) (more told : List (List ℕ)) (n : ℕ) (es : List Exchange) → AreOver es → bodies ≡ meeting introduction ∷ more →
      replies ≡ reply ∷ told → GoesBy p now more told deed q n → Stays false es
  went_by introduction reply more told n es over asked replied (inl (is, inl a)) =
      let all : bodies ≡ meeting introduction ∷ stat ∷ [] = asked ∙ ap (λ z. meeting introduction ∷ z) a.asked in
      begun false es (ap begins all)
      (began more told es over a
      (ap (λ z. told_of z replies) all ∙ ap (λ z. told_of (meeting introduction ∷ stat ∷ []) z) (replied ∙ ap (λ z. reply ∷ z) a.replied)))
  went_by introduction reply more told n es over asked replied (inl (is, inr b)) = met_only introduction more told NoMemory es over asked b
  went_by introduction reply more told n es over asked replied (inr (other, b)) = met_only introduction more told (NotMet n) es over asked b

  -- what is left of an answer, or that the exchange is over
  left_over : (rest : List Item) (connected full useful : Bool) (refused : ℕ) (e : Exchange) (es : List Exchange) → IsDelivered (more_of t e) rest refused →
      AreOver es → Leaves p now deed q rest connected full useful refused → (is_call deed ≡ false) × Fits q.moment true (more_of t e ∷ es)
  left_over [] connected full useful refused e es d over (inl (none, goes)) = (
    ap is_call goes.deed_is,
    subst (λ m. Fits m true (more_of t e ∷ es)) (sym (ap (λ (x : Peer). x.moment) goes.next))
        (over_alone connected now (if full && useful then 0 else p.every) (more_of t e ∷ es) (
          inr (inr (record {
            question = d.question;
            left = [];
            answered = d.answered;
            all = inl (refl, none_refused refused (more_of t e).replied d.counted none);
          })),
          over,
        )),
  )
  left_over [] connected full useful refused e es d over (inr (some, f)) = (
    ap is_call f.deed_is,
    subst (λ m. Fits m true (more_of t e ∷ es)) (sym (ap (λ (x : Peer). x.moment) f.next)) (
      inr (inr (record {
        question = d.question;
        left = [];
        answered = d.answered;
        all = inr (now_failed e.failed (is_failure deed) (ap is_failure f.deed_is));
      })),
      over,
    ),
  )
  left_over (item ∷ items) connected full useful refused e es d over goes = (
    ap is_call goes.deed_is,
    subst (λ m. Fits m true (more_of t e ∷ es)) (sym (ap (λ (x : Peer). x.moment) goes.next)) (d, over),
  )

  -- items were delivered
  delivered : (items : List Item) (connected full useful : Bool) (refused : ℕ) (e : Exchange) (es : List Exchange) → wrote_in news ≡ [] →
      IsDelivered e items refused → AreOver es → Delivers p now bodies replies deed q items connected full useful refused → Stays true (e ∷ es)
  delivered items connected full useful refused e es wrote d over m =
      let rest = drop most_a_turn items in
      let none : begins bodies ≡ false = ap begins m.asked ∙ begins_none (take most_a_turn items) in
      let more : IsDelivered (more_of t e) rest (min (refused + refused_of replies) most_refused) = record {
        question = question_more t e [] [] (ap (λ z. z ++ []) (sym wrote)) d.question;
        answered = answered_more t e items rest (take most_a_turn items) m.asked (sym (take-append-drop most_a_turn items)) d.answered;
        counted = counted_more refused e.replied replies d.counted;
      } in
      let stays =
      left_over rest connected full (useful || any_applied replies) (min (refused + refused_of replies) most_refused) e es more over m.leaves in
      let on : goes_on t true ≡ true =
      ap (λ b. if b then true else (if is_call deed then false else true)) none ∙ ap (λ c. if c then false else true) stays.0 in
      let same : next t true (e ∷ es) ≡ more_of t e ∷ es =
      ap (λ b. if b then begun_by t ∷ e ∷ es else later t (goes_on t true) (e ∷ es)) none ∙ ap (λ c. later t c (e ∷ es)) on in
      subst (λ c. Fits q.moment c (next t true (e ∷ es))) (sym on) (subst (λ z. Fits q.moment true z) (sym same) stays.1)

  -- the time
  on_time : (moment : Moment) (on : Bool) (es : List Exchange) → p.moment ≡ moment → wrote_in news ≡ [] → came_in news ≡ [] → Fits moment on es →
      OnTime p now bodies replies deed q moment → Stays on es
  on_time (Away since wait) on es is w c fit (inl m) = called on es fit m.1
  on_time (Away since wait) on es is w c fit (inr m) = rested (Away since wait) on es is m.1 (all_over t on es m.1.none w fit)
  on_time (Calling since) true es is w c fit m = absurd fit
  on_time (Calling since) false es is w c fit (inl m) = broke Late false es m.1 fit
  on_time (Calling since) false es is w c fit (inr m) = rested (Calling since) false es is m.1 fit
  on_time (Greeting since question) true es is w c fit m = absurd fit
  on_time (Greeting since question) false es is w c fit (inl m) = broke Late false es m.1 fit
  on_time (Greeting since question) false es is w c fit (inr m) = rested (Greeting since question) false es is m.1 fit
  on_time (Greeted answer) true es is w c fit m = absurd fit
  on_time (Greeted answer) false es is w c fit m = went_by answer m.reply m.more m.told (verdict m.reply) es fit m.asked m.replied m.goes
  on_time (Idle since wait) on es is w c fit (inl m) = may_ask on es fit w m.1
  on_time (Idle since wait) on es is w c fit (inr m) = rested (Idle since wait) on es is m.1 (all_over t on es m.1.none w fit)
  on_time (Asked since question) false es is w c fit m = absurd fit
  on_time (Asked since question) true [] is w c fit m = absurd fit
  on_time (Asked since question) true (e ∷ es) is w c fit (inl m) =
      broke Late true (e ∷ es) m.1 (asking_failed t e question Late (is_told p.last Late) m.1.none.0 w m.1.failed.deed_is fit.0, fit.1)
  on_time (Asked since question) true (e ∷ es) is w c fit (inr m) =
      rested (Asked since question) true (e ∷ es) is m.1 (asking_same t e question m.1.none w c fit.0, fit.1)
  on_time (Delivering items connected full useful refused) false es is w c fit m = absurd fit
  on_time (Delivering items connected full useful refused) true [] is w c fit m = absurd fit
  on_time (Delivering items connected full useful refused) true (e ∷ es) is w c fit m = delivered items connected full useful refused e es w fit.0 fit.1 m

  -- nothing was done
  on_rest : (moment : Moment) (on : Bool) (es : List Exchange) → p.moment ≡ moment → wrote_in news ≡ [] → came_in news ≡ [] → Fits moment on es →
      Rests p now bodies replies deed q → Stays on es
  on_rest (Away since wait) on es is w c fit r = rested (Away since wait) on es is r (all_over t on es r.none w fit)
  on_rest (Calling since) true es is w c fit r = absurd fit
  on_rest (Calling since) false es is w c fit r = rested (Calling since) false es is r fit
  on_rest (Greeting since question) true es is w c fit r = absurd fit
  on_rest (Greeting since question) false es is w c fit r = rested (Greeting since question) false es is r fit
  on_rest (Greeted answer) true es is w c fit r = absurd fit
  on_rest (Greeted answer) false es is w c fit r = rested (Greeted answer) false es is r fit
  on_rest (Idle since wait) on es is w c fit r = rested (Idle since wait) on es is r (all_over t on es r.none w fit)
  on_rest (Asked since question) false es is w c fit r = absurd fit
  on_rest (Asked since question) true [] is w c fit r = absurd fit
  on_rest (Asked since question) true (e ∷ es) is w c fit r =
      rested (Asked since question) true (e ∷ es) is r (asking_same t e question r.none w c fit.0, fit.1)
  on_rest (Delivering items connected full useful refused) false es is w c fit r = absurd fit
  on_rest (Delivering items connected full useful refused) true [] is w c fit r = absurd fit
  on_rest (Delivering items connected full useful refused) true (e ∷ es) is w c fit r =
      rested (Delivering items connected full useful refused) true (e ∷ es) is r (delivered_same t e items refused r.none w fit.0, fit.1)

  -- the call came through
  on_through : (moment : Moment) (on : Bool) (es : List Exchange) → p.moment ≡ moment → wrote_in news ≡ [] → came_in news ≡ [] → Fits moment on es →
      OnThrough p now bodies replies deed q moment → Stays on es
  on_through (Calling since) true es is w c fit m = absurd fit
  on_through (Calling since) false es is w c fit (inl m) = became Stay _ false es refl m fit
  on_through (Calling since) false es is w c fit (inr m) = broke NoMemory false es m fit
  on_through (Away since wait) on es is w c fit m = on_rest (Away since wait) on es is w c fit m
  on_through (Greeting since question) on es is w c fit m = on_rest (Greeting since question) on es is w c fit m
  on_through (Greeted answer) on es is w c fit m = on_rest (Greeted answer) on es is w c fit m
  on_through (Idle since wait) on es is w c fit m = on_rest (Idle since wait) on es is w c fit m
  on_through (Asked since question) on es is w c fit m = on_rest (Asked since question) on es is w c fit m
  on_through (Delivering items connected full useful refused) on es is w c fit m = on_rest (Delivering items connected full useful refused) on es is w c fit m

  -- the connection is over
  on_over : (moment : Moment) (on : Bool) (es : List Exchange) → p.moment ≡ moment → wrote_in news ≡ [] → came_in news ≡ [] → Fits moment on es →
      OnOver p now bodies replies deed q moment → Stays on es
  on_over (Away since wait) on es is w c fit m = on_rest (Away since wait) on es is w c fit m
  on_over (Calling since) true es is w c fit m = absurd fit
  on_over (Calling since) false es is w c fit m = broke NotReached false es m fit
  on_over (Greeting since question) true es is w c fit m = absurd fit
  on_over (Greeting since question) false es is w c fit m = broke Cut false es m fit
  on_over (Greeted answer) true es is w c fit m = absurd fit
  on_over (Greeted answer) false es is w c fit m = broke Cut false es m fit
  on_over (Idle since wait) on es is w c fit m = became Close (Away since wait) on es refl m (all_over t on es m.none w fit)
  on_over (Asked since question) false es is w c fit m = absurd fit
  on_over (Asked since question) true [] is w c fit m = absurd fit
  on_over (Asked since question) true (e ∷ es) is w c fit m =
      broke Cut true (e ∷ es) m (asking_failed t e question Cut (is_told p.last Cut) m.none.0 w m.failed.deed_is fit.0, fit.1)
  on_over (Delivering items true full useful refused) false es is w c fit m = absurd fit
  on_over (Delivering items true full useful refused) true [] is w c fit m = absurd fit
  on_over (Delivering items true full useful refused) true (e ∷ es) is w c fit m =
      became Close (Delivering items false full useful refused) true (e ∷ es) refl m (delivered_same t e items refused m.none w fit.0, fit.1)
  on_over (Delivering items false full useful refused) on es is w c fit m = on_rest (Delivering items false full useful refused) on es is w c fit m

  -- what came of an introduction was used
  on_introduced : (since : ℕ) (es : List Exchange) → AreOver es → (introduced : Introduced) → Learns p now bodies replies deed q since introduced →
      Stays false es
  on_introduced since es over (MoreOfIt question) m = became Stay (Greeting since question) false es refl m over
  on_introduced since es over (Introduces answer) m = became Stay (Greeted answer) false es refl m over
  on_introduced since es over (NoIntroduction why) m = broke why false es m over

  on_greeting : (since : ℕ) (left came : List ℕ) (es : List Exchange) → AreOver es → GreetsOf p now bodies replies deed q since left came → Stays false es
  on_greeting since [] came es over m = on_introduced since es over m.introduced m.learns
  on_greeting since (byte ∷ left) came es over m = broke Unasked false es m over

  -- what came was used
  on_heard : (since : ℕ) (came : List ℕ) (question : QuestionState) (e : Exchange) (es : List Exchange) → wrote_in news ≡ [] → came ≡ question.came ++ came_in news →
      question.left ≡ [] → IsAsking e question → AreOver es → (heard : Heard) → IsHeard [] came heard → Uses p now bodies replies deed q since heard →
      Stays true (e ∷ es)
  on_heard since came question e es w all sent a over (More more) heard m =
      became Stay (Asked since more) true (e ∷ es) refl m (
        subst (λ x. IsAsking (more_of t e) x) (sym heard.1) (record {
          asks = question_more t e [] [] (ap (λ z. z ++ []) (sym w)) (subst (λ z. IsQuestion e z) sent a.asks);
          came = ap (λ z. z ++ came_in news) a.came ∙ sym all;
          asked = none_asked t e m.none.0 ∙ a.asked;
          replied = none_replied t e m.none.1 ∙ a.replied;
        }),
        over,
      )
  on_heard since came question e es w all sent a over (Answer items full) (body, batch, starts, spelled, are, f) m =
      became Stay (Delivering items true full false 0) true (e ∷ es) refl m (
        record {
          question = question_more t e [] [] (ap (λ z. z ++ []) (sym w)) (subst (λ z. IsQuestion e z) sent a.asks);
          answered = record {
            body = body;
            behind = [];
            batch = batch;
            came = subst (λ z. StartsWith body [] z) (all ∙ ap (λ z. z ++ came_in news) (sym a.came)) starts;
            spelled = spelled;
            delivered = ap (λ z. z ++ map delivery items) (none_asked t e m.none.0 ∙ a.asked) ∙ ap (map delivery) are;
          };
          counted = sym (ap (λ z. min (refused_of z) most_refused) (none_replied t e m.none.1 ∙ a.replied));
        },
        over,
      )
  on_heard since came question e es w all sent a over (Other why) heard m =
      broke why true (e ∷ es) m (asking_failed t e question why (is_told p.last why) m.none.0 w m.failed.deed_is a, over)

  on_question : (since : ℕ) (left came : List ℕ) (question : QuestionState) (e : Exchange) (es : List Exchange) → wrote_in news ≡ [] →
      came ≡ question.came ++ came_in news → question.left ≡ left → IsAsking e question → AreOver es → HearsOf p now bodies replies deed q since left came →
      Stays true (e ∷ es)
  on_question since [] came question e es w all sent a over m = on_heard since came question e es w all sent a over m.heard m.is m.uses
  on_question since (byte ∷ left) came question e es w all sent a over m =
      broke Unasked true (e ∷ es) m (asking_failed t e question Unasked (is_told p.last Unasked) m.none.0 w m.failed.deed_is a, over)

  -- bytes came
  on_bytes : (bytes : List ℕ) (moment : Moment) (on : Bool) (es : List Exchange) → came_in news ≡ bytes → p.moment ≡ moment → wrote_in news ≡ [] →
      Fits moment on es → OnBytes p now bodies replies deed q bytes moment → Stays on es
  on_bytes bytes (Away since wait) on es c is w fit m = rested (Away since wait) on es is m (all_over t on es m.none w fit)
  on_bytes bytes (Calling since) true es c is w fit m = absurd fit
  on_bytes bytes (Calling since) false es c is w fit m = rested (Calling since) false es is m fit
  on_bytes bytes (Greeting since question) true es c is w fit m = absurd fit
  on_bytes bytes (Greeting since question) false es c is w fit m = on_greeting since question.left (question.came ++ bytes) es fit m
  on_bytes bytes (Greeted answer) true es c is w fit m = absurd fit
  on_bytes bytes (Greeted answer) false es c is w fit m = broke Unasked false es m fit
  on_bytes bytes (Idle since wait) on es c is w fit m = broke Unasked on es m (all_over t on es m.none w fit)
  on_bytes bytes (Asked since question) false es c is w fit m = absurd fit
  on_bytes bytes (Asked since question) true [] c is w fit m = absurd fit
  on_bytes bytes (Asked since question) true (e ∷ es) c is w fit m =
      on_question since question.left (question.came ++ bytes) question e es w (ap (λ z. question.came ++ z) (sym c)) refl fit.0 fit.1 m
  on_bytes bytes (Delivering items true full useful refused) false es c is w fit m = absurd fit
  on_bytes bytes (Delivering items true full useful refused) true [] c is w fit m = absurd fit
  on_bytes bytes (Delivering items true full useful refused) true (e ∷ es) c is w fit m =
      broke Unasked true (e ∷ es) m (delivered_failed t e items refused Unasked (is_told p.last Unasked) m.none.0 w m.failed.deed_is fit.0, fit.1)
  on_bytes bytes (Delivering items false full useful refused) false es c is w fit m = absurd fit
  on_bytes bytes (Delivering items false full useful refused) true [] c is w fit m = absurd fit
  on_bytes bytes (Delivering items false full useful refused) true (e ∷ es) c is w fit m =
      rested (Delivering items false full useful refused) true (e ∷ es) is m (delivered_same t e items refused m.none w fit.0, fit.1)

  on_came : (bytes : List ℕ) (on : Bool) (es : List Exchange) → came_in news ≡ bytes → wrote_in news ≡ [] → Fits p.moment on es →
      OnCame p now bodies replies deed q bytes p.moment → Stays on es
  on_came [] on es c w fit m = on_rest p.moment on es refl w c fit m
  on_came (byte ∷ bytes) on es c w fit m = on_bytes (byte ∷ bytes) p.moment on es c refl w fit m

  -- bytes were written
  none_written : (bytes : List ℕ) (moment : Moment) (on : Bool) (es : List Exchange) → wrote_in news ≡ bytes → came_in news ≡ [] → p.moment ≡ moment →
      Fits moment on es → WritesNone p now bodies replies deed q bytes → Stays on es
  none_written bytes moment on es w c is fit m = on_rest moment on es is (w ∙ m.none_waits) c fit m.rests

  on_sent : (bytes : List ℕ) (moment : Moment) (on : Bool) (es : List Exchange) → wrote_in news ≡ bytes → came_in news ≡ [] → p.moment ≡ moment →
      Fits moment on es → OnSent p now bodies replies deed q bytes moment → Stays on es
  on_sent bytes (Greeting since question) true es w c is fit m = absurd fit
  on_sent bytes (Greeting since question) false es w c is fit m =
      became Stay (Greeting since (record { left = m.left; came = question.came })) false es refl m.becomes fit
  on_sent bytes (Asked since question) false es w c is fit m = absurd fit
  on_sent bytes (Asked since question) true [] w c is fit m = absurd fit
  on_sent bytes (Asked since question) true (e ∷ es) w c is fit m =
      became Stay (Asked since (record { left = m.left; came = question.came })) true (e ∷ es) refl m.becomes (
        record {
          asks = question_more t e question.left m.left (m.front ∙ ap (λ z. z ++ m.left) (sym w)) fit.0.asks;
          came = ap (λ z. e.came ++ z) c ∙ (append-nil e.came ∙ fit.0.came);
          asked = none_asked t e m.becomes.none.0 ∙ fit.0.asked;
          replied = none_replied t e m.becomes.none.1 ∙ fit.0.replied;
        },
        fit.1,
      )
  on_sent bytes (Away since wait) on es w c is fit m = none_written bytes (Away since wait) on es w c is fit m
  on_sent bytes (Calling since) on es w c is fit m = none_written bytes (Calling since) on es w c is fit m
  on_sent bytes (Greeted answer) on es w c is fit m = none_written bytes (Greeted answer) on es w c is fit m
  on_sent bytes (Idle since wait) on es w c is fit m = none_written bytes (Idle since wait) on es w c is fit m
  on_sent bytes (Delivering items connected full useful refused) on es w c is fit m =
      none_written bytes (Delivering items connected full useful refused) on es w c is fit m

one_turn : (p : Peer) (now : ℕ) (news : News) (bodies replies : List (List ℕ)) (deed : Deed) (q : Peer) (on : Bool) (es : List Exchange) →
    Fits p.moment on es → Moves p now bodies replies deed q news →
    Fits q.moment (goes_on (turn_of now news bodies replies deed) on) (next (turn_of now news bodies replies deed) on es)
one_turn p now Time bodies replies deed q on es fit m = on_time p now bodies replies deed q Time p.moment on es refl refl refl fit m
one_turn p now Through bodies replies deed q on es fit m = on_through p now bodies replies deed q Through p.moment on es refl refl refl fit m
one_turn p now Over bodies replies deed q on es fit m = on_over p now bodies replies deed q Over p.moment on es refl refl refl fit m
one_turn p now (Came bytes) bodies replies deed q on es fit m = on_came p now bodies replies deed q (Came bytes) bytes on es refl refl fit m
one_turn p now (Sent bytes) bodies replies deed q on es fit m = on_sent p now bodies replies deed q (Sent bytes) bytes p.moment on es refl refl refl fit m

all_fit : (every : ℕ) (turns : List PeerTurn) (q : Peer) → Went every turns q → Fits q.moment (within turns) (exchanges turns)
all_fit every [] q e = subst (λ (x : Peer). Fits x.moment false []) (sym e) tt
all_fit every (t ∷ older) q (p, went, m) =
    one_turn p t.now t.news t.bodies t.replies t.deed q (within older) (exchanges older) (all_fit every older p went) m

seen : (moment : Moment) (on : Bool) (es : List Exchange) → Fits moment on es → Fit moment es
seen (Away since wait) on es fit = fit
seen (Calling since) true es fit = absurd fit
seen (Calling since) false es fit = fit
seen (Greeting since question) true es fit = absurd fit
seen (Greeting since question) false es fit = fit
seen (Greeted answer) true es fit = absurd fit
seen (Greeted answer) false es fit = fit
seen (Idle since wait) on es fit = fit
seen (Asked since question) false es fit = absurd fit
seen (Asked since question) true [] fit = absurd fit
seen (Asked since question) true (e ∷ es) fit = fit
seen (Delivering items connected full useful refused) false es fit = absurd fit
seen (Delivering items connected full useful refused) true [] fit = absurd fit
seen (Delivering items connected full useful refused) true (e ∷ es) fit = fit

pub exchanges_are_whole : (every : ℕ) (turns : List PeerTurn) (q : Peer) → Went every turns q → Fit q.moment (exchanges turns)
exchanges_are_whole every turns q went = seen q.moment (within turns) (exchanges turns) (all_fit every turns q went)

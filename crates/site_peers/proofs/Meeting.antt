-- That nobody is asked whom the site didn't meet, turn by turn.
use Rattle.std.proofs.Common.{◌≡◌, ◌∙◌, ℕ, Bool, true, false, List, [], ◌∷◌, ◌++◌, ◌⊎◌, inl, inr, refl, ap, sym, subst, append_assoc, arith}
use Rattle.std.specs.Prelude.{◌==◌, ◌||◌, if◌then◌else◌}
use Rattle.std.proofs.lemmas.Bool.{cases_Bool, eqb-true}
use Rattle.std.proofs.lemmas.List.{append-nil}
use Rattle.site_peers.specs.declared.deeds.Deed.{Deed}
use Rattle.site_peers.specs.declared.deeds.Deed.TheVariants.{Stay, Call, Close, Fail}
use Rattle.site_peers.specs.declared.deeds.Failure.{Failure}
use Rattle.site_peers.specs.declared.deeds.Failure.TheVariants.{NotReached, Late, Cut, NotMet, Unasked, NoCounts, NoMemory, NoRoom}
use Rattle.site_peers.specs.declared.hearing.Heard.{Heard}
use Rattle.site_peers.specs.declared.hearing.Heard.TheVariants.{More, Answer, Other}
use Rattle.site_peers.specs.declared.introductions.Introduced.{Introduced}
use Rattle.site_peers.specs.declared.introductions.Introduced.TheVariants.{More as MoreOfIt, Answer as Introduces, Other as NoIntroduction}
use Rattle.site_peers.specs.declared.moments.Moment.{Moment}
use Rattle.site_peers.specs.declared.moments.Moment.TheVariants.{Away, Calling, Greeting, Greeted, Idle, Asked, Delivering}
use Rattle.site_peers.specs.declared.peers.Peer.{Peer}
use Rattle.wire_lives.specs.declared.life_codes.TheConstants.{MEET, MET}
use Rattle.site_peers.specs.declared.introductions.TheConstants.{NO_VERDICT}
use Rattle.tardis_base.specs.declared.records.Item.{Item}
use Rattle.site_peers.specs.Questions.{QuestionState}
use Rattle.site_peers.specs.Asking.{greeting, meeting, met, verdict}
use Rattle.site_peers.specs.Hearing.{StartsWith}
use Rattle.site_peers.specs.Introductions.{IsIntroduced}
use Rattle.site_peers.specs.Moves.{is_told, News, Time, Through, Over, Came, Sent, Leaves, is_called, HasFailed, Rests, Becomes, Breaks, Asks, MayAsk, GoesBy, HearsOf, Uses, GreetsOf, Learns, WritesNone, Moves}
use Rattle.site_peers.specs.Moves.{OnTime, OnThrough, OnOver, OnCame, OnBytes, OnSent}
use Rattle.site_peers.specs.Runs.{PeerTurn, Went, wrote_in, came_in, is_call}
use Rattle.site_peers.specs.Connections.{since_call, is_through, came_through, came_since, wrote_since, asked_since, IsMet, IsNotAsked}

-- a verdict that the peer is met is just one reply
met_by : (reply : List ℕ) → verdict reply ≡ MET → reply ≡ met
met_by [] is = absurd (omega (arith, is))
met_by (x ∷ []) is = absurd (omega (arith, is))
met_by (x ∷ y ∷ []) is = elim (cases_Bool (x == MEET)) as (λ _. (x ∷ y ∷ []) ≡ met) [
  | inl same ↦ ap (λ z. z ∷ y ∷ []) (eqb-true x MEET same) ∙ ap (λ z. MEET ∷ z ∷ []) (sym (ap (λ b. if b then y else NO_VERDICT) same) ∙ is)
  | inr other ↦ absurd (omega (arith, sym (ap (λ b. if b then y else NO_VERDICT) other) ∙ is))
]
met_by (x ∷ y ∷ z ∷ rest) is = absurd (omega (arith, is))

-- the peer was called, and nothing was done since
record IsCalled (turns : List PeerTurn) : Type 0 where
  through : came_through turns ≡ false
  wrote : wrote_since turns ≡ []
  asked : asked_since turns ≡ []

-- the question for its introduction was written so far, and these bytes came
record IsGreeting (turns : List PeerTurn) (question : QuestionState) : Type 0 where
  through : came_through turns ≡ true
  wrote : wrote_since turns ++ question.left ≡ greeting
  asked : asked_since turns ≡ []
  came : came_since turns ≡ question.came

-- the introduction came
record IsGreeted (turns : List PeerTurn) (answer : List ℕ) : Type 0 where
  through : came_through turns ≡ true
  wrote : wrote_since turns ≡ greeting
  asked : asked_since turns ≡ []
  came : StartsWith answer [] (came_since turns)

-- what was done since the last call, by what the peer stands at
abbrev StandsBy : Moment → List PeerTurn → Type 0
StandsBy (Away since wait) turns = IsMet turns ⊎ IsNotAsked turns
StandsBy (Calling since) turns = IsCalled turns
StandsBy (Greeting since question) turns = IsGreeting turns question
StandsBy (Greeted answer) turns = IsGreeted turns answer
StandsBy (Idle since wait) turns = IsMet turns
StandsBy (Asked since question) turns = IsMet turns
StandsBy (Delivering items connected full useful refused) turns = IsMet turns

or_true : (a b : Bool) → b ≡ true → (a || b) ≡ true
or_true true b is = refl
or_true false b is = is

module _ (t : PeerTurn) (turns : List PeerTurn) where
  wrote_none : wrote_in t.news ≡ [] → wrote_since (t ∷ turns) ≡ wrote_since turns
  wrote_none w = ap (λ z. wrote_since turns ++ z) w ∙ append-nil (wrote_since turns)

  asked_none : t.bodies ≡ [] → asked_since (t ∷ turns) ≡ asked_since turns
  asked_none none = ap (λ z. asked_since turns ++ z) none ∙ append-nil (asked_since turns)

  came_more : came_through turns ≡ true → came_since (t ∷ turns) ≡ came_since turns ++ came_in t.news
  came_more through = ap (λ b. if b then came_since turns ++ came_in t.news else []) through

  came_none : came_through turns ≡ true → came_in t.news ≡ [] → came_since (t ∷ turns) ≡ came_since turns
  came_none through c = came_more through ∙ (ap (λ z. came_since turns ++ z) c ∙ append-nil (came_since turns))

  -- of a peer that is away
  away_more : t.bodies ≡ [] → wrote_in t.news ≡ [] → IsMet turns ⊎ IsNotAsked turns → IsMet (t ∷ turns) ⊎ IsNotAsked (t ∷ turns)
  away_more none w (inl m) = inl (inr m)
  away_more none w (inr n) = inr (record {
    left = n.left;
    wrote = ap (λ z. z ++ n.left) (wrote_none w) ∙ n.wrote;
    asked = elim n.asked as (λ _. (asked_since (t ∷ turns) ≡ []) ⊎ ((introduction : List ℕ) × (asked_since (t ∷ turns) ≡ meeting introduction ∷ []))) [
      | inl nothing ↦ inl (asked_none none ∙ nothing)
      | inr one ↦ inr (one.0, asked_none none ∙ one.1)
    ];
  })

  not_asked : (left : List ℕ) → t.bodies ≡ [] → wrote_in t.news ≡ [] → wrote_since turns ++ left ≡ greeting → asked_since turns ≡ [] →
      IsMet (t ∷ turns) ⊎ IsNotAsked (t ∷ turns)
  not_asked left none w wrote asked = inr (record {
    left = left;
    wrote = ap (λ z. z ++ left) (wrote_none w) ∙ wrote;
    asked = inl (asked_none none ∙ asked);
  })

  called_more : is_through t.news ≡ false → t.bodies ≡ [] → wrote_in t.news ≡ [] → IsCalled turns → IsCalled (t ∷ turns)
  called_more other none w k = record {
    through = ap (λ b. b || came_through turns) other ∙ k.through;
    wrote = wrote_none w ∙ k.wrote;
    asked = asked_none none ∙ k.asked;
  }

  greeting_begins : is_through t.news ≡ true → t.bodies ≡ [] → wrote_in t.news ≡ [] → IsCalled turns →
      IsGreeting (t ∷ turns) (record { left = greeting; came = [] })
  greeting_begins is none w k = record {
    through = ap (λ b. b || came_through turns) is;
    wrote = ap (λ z. z ++ greeting) (wrote_none w ∙ k.wrote);
    asked = asked_none none ∙ k.asked;
    came = ap (λ b. if b then came_since turns ++ came_in t.news else []) k.through;
  }

  greeting_same : (question : QuestionState) → t.bodies ≡ [] → wrote_in t.news ≡ [] → came_in t.news ≡ [] → IsGreeting turns question →
      IsGreeting (t ∷ turns) question
  greeting_same question none w c k = record {
    through = or_true (is_through t.news) (came_through turns) k.through;
    wrote = ap (λ z. z ++ question.left) (wrote_none w) ∙ k.wrote;
    asked = asked_none none ∙ k.asked;
    came = came_none k.through c ∙ k.came;
  }

  greeted_same : (answer : List ℕ) → t.bodies ≡ [] → wrote_in t.news ≡ [] → came_in t.news ≡ [] → IsGreeted turns answer → IsGreeted (t ∷ turns) answer
  greeted_same answer none w c k = record {
    through = or_true (is_through t.news) (came_through turns) k.through;
    wrote = wrote_none w ∙ k.wrote;
    asked = asked_none none ∙ k.asked;
    came = subst (λ z. StartsWith answer [] z) (sym (came_none k.through c)) k.came;
  }

module _ (p : Peer) (now : ℕ) (bodies replies : List (List ℕ)) (deed : Deed) (q : Peer) (news : News) where
  abbrev t : PeerTurn
  t = record { now = now; news = news; bodies = bodies; replies = replies; deed = deed }

  -- the turns since the last call, after this one
  abbrev next : List PeerTurn → List PeerTurn
  next turns = if is_call deed then [] else t ∷ turns

  -- what is to be shown of a turn
  abbrev Stays : List PeerTurn → Type 0
  Stays turns = StandsBy q.moment (next turns)

  settled : (turns : List PeerTurn) (moment : Moment) (d : Deed) → deed ≡ d → is_call d ≡ false → q.moment ≡ moment → StandsBy moment (t ∷ turns) → Stays turns
  settled turns moment d is other at_last stands =
      subst (λ m. StandsBy m (next turns)) (sym at_last)
      (subst (λ z. StandsBy moment z) (sym (ap (λ b. if b then [] else t ∷ turns) (ap is_call is ∙ other))) stands)

  rested : (moment : Moment) (turns : List PeerTurn) → p.moment ≡ moment → Rests p now bodies replies deed q → StandsBy moment (t ∷ turns) → Stays turns
  rested moment turns is r stands = settled turns moment Stay r.deed_is refl (ap (λ (x : Peer). x.moment) r.same ∙ is) stands

  became : (d : Deed) (moment : Moment) (turns : List PeerTurn) → is_call d ≡ false → Becomes p now bodies replies deed q d moment →
      StandsBy moment (t ∷ turns) → Stays turns
  became d moment turns other b stands = settled turns moment d b.deed_is other (ap (λ (x : Peer). x.moment) b.next) stands

  failed_now : (why : Failure) (turns : List PeerTurn) → HasFailed p now deed q why → IsMet (t ∷ turns) ⊎ IsNotAsked (t ∷ turns) → Stays turns
  failed_now why turns f stands =
      settled turns (Away now p.pause) (Fail why (is_told p.last why)) f.deed_is refl (ap (λ (x : Peer). x.moment) f.next) stands

  called : (turns : List PeerTurn) → Becomes p now bodies replies deed q Call (Calling now) → Stays turns
  called turns b =
      subst (λ m. StandsBy m (next turns)) (sym (ap (λ (x : Peer). x.moment) b.next))
      (subst (λ z. IsCalled z) (sym (ap (λ d. if is_call d then [] else t ∷ turns) b.deed_is)) (record { through = refl; wrote = refl; asked = refl }))

  -- the peer was met before, and is asked
  asks : (more told : List (List ℕ)) (turns : List PeerTurn) → IsMet (t ∷ turns) → Asks p now more told deed q → Stays turns
  asks more told turns is a = elim a.way as (λ _. Stays turns) [
    | inl pulls ↦ settled turns _ Stay pulls.deed_is refl (ap (λ (x : Peer). x.moment) pulls.next) is
    | inr none ↦ failed_now NoCounts turns none.failed (inl is)
  ]

  may_ask : (turns : List PeerTurn) → IsMet turns → MayAsk p now bodies replies deed q → Stays turns
  may_ask turns is (inl a) = asks bodies replies turns (inr is) a
  may_ask turns is (inr b) = failed_now NoMemory turns b.failed (inl (inr is))

  -- the site was asked to meet the peer, and nothing behind that
  met_only : (introduction : List ℕ) (more told : List (List ℕ)) (why : Failure) (turns : List PeerTurn) → wrote_in news ≡ [] → IsGreeted turns introduction →
      bodies ≡ meeting introduction ∷ more → Breaks p now more told deed q why → Stays turns
  met_only introduction more told why turns w k asked b = failed_now why turns b.failed (inr (record {
    left = [];
    wrote = append-nil (wrote_since (t ∷ turns)) ∙ (wrote_none t turns w ∙ k.wrote);
    asked = inr (introduction, ap (λ z. z ++ bodies) k.asked ∙ (asked ∙ ap (λ z. meeting introduction ∷ z) b.none.0));
  }))

  went_by : (introduction reply : List ℕ) (more told : List (List ℕ)) (turns : List PeerTurn) → wrote_in news ≡ [] → IsGreeted turns introduction →
      bodies ≡ meeting introduction ∷ more → replies ≡ reply ∷ told → GoesBy p now more told deed q (verdict reply) → Stays turns
  went_by introduction reply more told turns w k asked replied (inl (is, inl a)) = asks more told turns (inl (record {
    introduction = introduction;
    statistics = a.reply;
    asked = asked ∙ ap (λ z. meeting introduction ∷ z) a.asked;
    replied = replied ∙ (ap (λ z. z ∷ told) (met_by reply is) ∙ ap (λ z. met ∷ z) a.replied);
    nothing = k.asked;
    wrote = k.wrote;
    came = k.came;
  })) a
  went_by introduction reply more told turns w k asked replied (inl (is, inr b)) = met_only introduction more told NoMemory turns w k asked b
  went_by introduction reply more told turns w k asked replied (inr (other, b)) =
      met_only introduction more told (NotMet (verdict reply)) turns w k asked b

  left_over : (rest : List Item) (connected full useful : Bool) (refused : ℕ) (turns : List PeerTurn) → IsMet turns →
      Leaves p now deed q rest connected full useful refused → Stays turns
  left_over [] true full useful refused turns is (inl (none, goes)) =
      settled turns _ Stay goes.deed_is refl (ap (λ (x : Peer). x.moment) goes.next) (inr is)
  left_over [] false full useful refused turns is (inl (none, goes)) =
      settled turns _ Stay goes.deed_is refl (ap (λ (x : Peer). x.moment) goes.next) (inl (inr is))
  left_over [] connected full useful refused turns is (inr (some, f)) = failed_now (NoRoom refused) turns f (inl (inr is))
  left_over (item ∷ items) connected full useful refused turns is goes =
      settled turns _ Stay goes.deed_is refl (ap (λ (x : Peer). x.moment) goes.next) (inr is)

  -- the time
  on_time : (moment : Moment) (turns : List PeerTurn) → p.moment ≡ moment → is_through news ≡ false → wrote_in news ≡ [] → came_in news ≡ [] →
      StandsBy moment turns → OnTime p now bodies replies deed q moment → Stays turns
  on_time (Away since wait) turns is h w c k (inl m) = called turns m.1
  on_time (Away since wait) turns is h w c k (inr m) = rested (Away since wait) turns is m.1 (away_more t turns m.1.none.0 w k)
  on_time (Calling since) turns is h w c k (inl m) =
      failed_now Late turns m.1.failed (not_asked t turns greeting m.1.none.0 w (ap (λ z. z ++ greeting) k.wrote) k.asked)
  on_time (Calling since) turns is h w c k (inr m) = rested (Calling since) turns is m.1 (called_more t turns h m.1.none.0 w k)
  on_time (Greeting since question) turns is h w c k (inl m) = failed_now Late turns m.1.failed (not_asked t turns question.left m.1.none.0 w k.wrote k.asked)
  on_time (Greeting since question) turns is h w c k (inr m) =
      rested (Greeting since question) turns is m.1 (greeting_same t turns question m.1.none.0 w c k)
  on_time (Greeted answer) turns is h w c k m = went_by answer m.reply m.more m.told turns w k m.asked m.replied m.goes
  on_time (Idle since wait) turns is h w c k (inl m) = may_ask turns k m.1
  on_time (Idle since wait) turns is h w c k (inr m) = rested (Idle since wait) turns is m.1 (inr k)
  on_time (Asked since question) turns is h w c k (inl m) = failed_now Late turns m.1.failed (inl (inr k))
  on_time (Asked since question) turns is h w c k (inr m) = rested (Asked since question) turns is m.1 (inr k)
  on_time (Delivering items connected full useful refused) turns is h w c k m =
      left_over _ connected full _ _ turns k m.leaves

  -- nothing was done
  on_rest : (moment : Moment) (turns : List PeerTurn) → p.moment ≡ moment → is_through news ≡ false ⊎ (is_called moment ≡ false) → wrote_in news ≡ [] →
      came_in news ≡ [] → StandsBy moment turns → Rests p now bodies replies deed q → Stays turns
  on_rest (Away since wait) turns is h w c k r = rested (Away since wait) turns is r (away_more t turns r.none.0 w k)
  on_rest (Calling since) turns is (inl h) w c k r = rested (Calling since) turns is r (called_more t turns h r.none.0 w k)
  on_rest (Calling since) turns is (inr h) w c k r = absurd (cc)
  on_rest (Greeting since question) turns is h w c k r = rested (Greeting since question) turns is r (greeting_same t turns question r.none.0 w c k)
  on_rest (Greeted answer) turns is h w c k r = rested (Greeted answer) turns is r (greeted_same t turns answer r.none.0 w c k)
  on_rest (Idle since wait) turns is h w c k r = rested (Idle since wait) turns is r (inr k)
  on_rest (Asked since question) turns is h w c k r = rested (Asked since question) turns is r (inr k)
  on_rest (Delivering items connected full useful refused) turns is h w c k r = rested (Delivering items connected full useful refused) turns is r (inr k)

  -- the call came through
  on_through : (moment : Moment) (turns : List PeerTurn) → p.moment ≡ moment → is_through news ≡ true → wrote_in news ≡ [] → came_in news ≡ [] →
      StandsBy moment turns → OnThrough p now bodies replies deed q moment → Stays turns
  on_through (Calling since) turns is h w c k (inl m) = became Stay _ turns refl m (greeting_begins t turns h m.none.0 w k)
  on_through (Calling since) turns is h w c k (inr m) =
      failed_now NoMemory turns m.failed (not_asked t turns greeting m.none.0 w (ap (λ z. z ++ greeting) k.wrote) k.asked)
  on_through (Away since wait) turns is h w c k m = on_rest (Away since wait) turns is (inr refl) w c k m
  on_through (Greeting since question) turns is h w c k m = on_rest (Greeting since question) turns is (inr refl) w c k m
  on_through (Greeted answer) turns is h w c k m = on_rest (Greeted answer) turns is (inr refl) w c k m
  on_through (Idle since wait) turns is h w c k m = on_rest (Idle since wait) turns is (inr refl) w c k m
  on_through (Asked since question) turns is h w c k m = on_rest (Asked since question) turns is (inr refl) w c k m
  on_through (Delivering items connected full useful refused) turns is h w c k m =
      on_rest (Delivering items connected full useful refused) turns is (inr refl) w c k m

  -- the connection is over
  on_over : (moment : Moment) (turns : List PeerTurn) → p.moment ≡ moment → is_through news ≡ false → wrote_in news ≡ [] → came_in news ≡ [] →
      StandsBy moment turns → OnOver p now bodies replies deed q moment → Stays turns
  on_over (Away since wait) turns is h w c k m = on_rest (Away since wait) turns is (inl h) w c k m
  on_over (Calling since) turns is h w c k m =
      failed_now NotReached turns m.failed (not_asked t turns greeting m.none.0 w (ap (λ z. z ++ greeting) k.wrote) k.asked)
  on_over (Greeting since question) turns is h w c k m = failed_now Cut turns m.failed (not_asked t turns question.left m.none.0 w k.wrote k.asked)
  on_over (Greeted answer) turns is h w c k m =
      failed_now Cut turns m.failed (not_asked t turns [] m.none.0 w (append-nil (wrote_since turns) ∙ k.wrote) k.asked)
  on_over (Idle since wait) turns is h w c k m = became Close (Away since wait) turns refl m (inl (inr k))
  on_over (Asked since question) turns is h w c k m = failed_now Cut turns m.failed (inl (inr k))
  on_over (Delivering items true full useful refused) turns is h w c k m = became Close (Delivering items false full useful refused) turns refl m (inr k)
  on_over (Delivering items false full useful refused) turns is h w c k m = on_rest (Delivering items false full useful refused) turns is (inl h) w c k m

  -- what came of an introduction was used
  on_introduced : (since : ℕ) (came : List ℕ) (question : QuestionState) (turns : List PeerTurn) → wrote_in news ≡ [] → came ≡ question.came ++ came_in news →
      question.left ≡ [] → IsGreeting turns question → (introduced : Introduced) → IsIntroduced [] came introduced →
      Learns p now bodies replies deed q since introduced → Stays turns
  on_introduced since came question turns w all sent k (MoreOfIt more) i m =
      became Stay (Greeting since more) turns refl m
      (subst (λ x. IsGreeting (t ∷ turns) x) (sym i.1) (record {
        through = or_true (is_through news) (came_through turns) k.through;
        wrote = ap (λ z. z ++ []) (wrote_none t turns w) ∙ (ap (λ z. wrote_since turns ++ z) (sym sent) ∙ k.wrote);
        asked = asked_none t turns m.none.0 ∙ k.asked;
        came = came_more t turns k.through ∙ (ap (λ z. z ++ came_in news) k.came ∙ sym all);
      }))
  on_introduced since came question turns w all sent k (Introduces answer) i m =
      became Stay (Greeted answer) turns refl m (record {
        through = or_true (is_through news) (came_through turns) k.through;
        wrote = wrote_none t turns w ∙ (sym (append-nil (wrote_since turns)) ∙ (ap (λ z. wrote_since turns ++ z) (sym sent) ∙ k.wrote));
        asked = asked_none t turns m.none.0 ∙ k.asked;
        came = subst (λ z. StartsWith answer [] z) (sym (came_more t turns k.through ∙ (ap (λ z. z ++ came_in news) k.came ∙ sym all))) i.0;
      })
  on_introduced since came question turns w all sent k (NoIntroduction why) i m =
      failed_now why turns m.failed (not_asked t turns question.left m.none.0 w k.wrote k.asked)

  on_greeting : (since : ℕ) (left came : List ℕ) (question : QuestionState) (turns : List PeerTurn) → wrote_in news ≡ [] → came ≡ question.came ++ came_in news →
      question.left ≡ left → IsGreeting turns question → GreetsOf p now bodies replies deed q since left came → Stays turns
  on_greeting since [] came question turns w all sent k m = on_introduced since came question turns w all sent k m.introduced m.is m.learns
  on_greeting since (byte ∷ left) came question turns w all sent k m =
      failed_now Unasked turns m.failed (not_asked t turns question.left m.none.0 w k.wrote k.asked)

  -- what came of an answer was used
  on_heard : (since : ℕ) (turns : List PeerTurn) → IsMet turns → (heard : Heard) → Uses p now bodies replies deed q since heard → Stays turns
  on_heard since turns k (More question) m = became Stay (Asked since question) turns refl m (inr k)
  on_heard since turns k (Answer items full) m = became Stay (Delivering items true full false 0) turns refl m (inr k)
  on_heard since turns k (Other why) m = failed_now why turns m.failed (inl (inr k))

  on_question : (since : ℕ) (left came : List ℕ) (turns : List PeerTurn) → IsMet turns → HearsOf p now bodies replies deed q since left came → Stays turns
  on_question since [] came turns k m = on_heard since turns k m.heard m.uses
  on_question since (byte ∷ left) came turns k m = failed_now Unasked turns m.failed (inl (inr k))

  -- bytes came
  on_bytes : (bytes : List ℕ) (moment : Moment) (turns : List PeerTurn) → came_in news ≡ bytes → p.moment ≡ moment → is_through news ≡ false →
      wrote_in news ≡ [] → StandsBy moment turns → OnBytes p now bodies replies deed q bytes moment → Stays turns
  on_bytes bytes (Away since wait) turns c is h w k m = rested (Away since wait) turns is m (away_more t turns m.none.0 w k)
  on_bytes bytes (Calling since) turns c is h w k m = rested (Calling since) turns is m (called_more t turns h m.none.0 w k)
  on_bytes bytes (Greeting since question) turns c is h w k m =
      on_greeting since question.left (question.came ++ bytes) question turns w (ap (λ z. question.came ++ z) (sym c)) refl k m
  on_bytes bytes (Greeted answer) turns c is h w k m =
      failed_now Unasked turns m.failed (not_asked t turns [] m.none.0 w (append-nil (wrote_since turns) ∙ k.wrote) k.asked)
  on_bytes bytes (Idle since wait) turns c is h w k m = failed_now Unasked turns m.failed (inl (inr k))
  on_bytes bytes (Asked since question) turns c is h w k m = on_question since question.left (question.came ++ bytes) turns k m
  on_bytes bytes (Delivering items true full useful refused) turns c is h w k m = failed_now Unasked turns m.failed (inl (inr k))
  on_bytes bytes (Delivering items false full useful refused) turns c is h w k m = rested (Delivering items false full useful refused) turns is m (inr k)

  on_came : (bytes : List ℕ) (turns : List PeerTurn) → came_in news ≡ bytes → is_through news ≡ false → wrote_in news ≡ [] → StandsBy p.moment turns →
      OnCame p now bodies replies deed q bytes p.moment → Stays turns
  on_came [] turns c h w k m = on_rest p.moment turns refl (inl h) w c k m
  on_came (byte ∷ bytes) turns c h w k m = on_bytes (byte ∷ bytes) p.moment turns c refl h w k m

  -- bytes were written
  none_written : (bytes : List ℕ) (moment : Moment) (turns : List PeerTurn) → wrote_in news ≡ bytes → came_in news ≡ [] → is_through news ≡ false →
      p.moment ≡ moment → StandsBy moment turns → WritesNone p now bodies replies deed q bytes → Stays turns
  none_written bytes moment turns w c h is k m = on_rest moment turns is (inl h) (w ∙ m.none_waits) c k m.rests

  on_sent : (bytes : List ℕ) (moment : Moment) (turns : List PeerTurn) → wrote_in news ≡ bytes → came_in news ≡ [] → is_through news ≡ false →
      p.moment ≡ moment → StandsBy moment turns → OnSent p now bodies replies deed q bytes moment → Stays turns
  on_sent bytes (Greeting since question) turns w c h is k m =
      became Stay (Greeting since (record { left = m.left; came = question.came })) turns refl m.becomes (record {
        through = or_true (is_through news) (came_through turns) k.through;
        wrote = append_assoc (wrote_since turns) (wrote_in news) m.left
            ∙ (ap (λ z. wrote_since turns ++ z) (ap (λ z. z ++ m.left) w ∙ sym m.front) ∙ k.wrote);
        asked = asked_none t turns m.becomes.none.0 ∙ k.asked;
        came = came_none t turns k.through c ∙ k.came;
      })
  on_sent bytes (Asked since question) turns w c h is k m =
      became Stay (Asked since (record { left = m.left; came = question.came })) turns refl m.becomes (inr k)
  on_sent bytes (Away since wait) turns w c h is k m = none_written bytes (Away since wait) turns w c h is k m
  on_sent bytes (Calling since) turns w c h is k m = none_written bytes (Calling since) turns w c h is k m
  on_sent bytes (Greeted answer) turns w c h is k m = none_written bytes (Greeted answer) turns w c h is k m
  on_sent bytes (Idle since wait) turns w c h is k m = none_written bytes (Idle since wait) turns w c h is k m
  on_sent bytes (Delivering items connected full useful refused) turns w c h is k m =
      none_written bytes (Delivering items connected full useful refused) turns w c h is k m

one_turn : (p : Peer) (now : ℕ) (news : News) (bodies replies : List (List ℕ)) (deed : Deed) (q : Peer) (turns : List PeerTurn) → StandsBy p.moment turns →
    Moves p now bodies replies deed q news → Stays p now bodies replies deed q news turns
one_turn p now Time bodies replies deed q turns k m = on_time p now bodies replies deed q Time p.moment turns refl refl refl refl k m
one_turn p now Through bodies replies deed q turns k m = on_through p now bodies replies deed q Through p.moment turns refl refl refl refl k m
one_turn p now Over bodies replies deed q turns k m = on_over p now bodies replies deed q Over p.moment turns refl refl refl refl k m
one_turn p now (Came bytes) bodies replies deed q turns k m = on_came p now bodies replies deed q (Came bytes) bytes turns refl refl refl k m
one_turn p now (Sent bytes) bodies replies deed q turns k m = on_sent p now bodies replies deed q (Sent bytes) bytes p.moment turns refl refl refl refl k m

all_stand : (every : ℕ) (turns : List PeerTurn) (q : Peer) → Went every turns q → StandsBy q.moment (since_call turns)
all_stand every [] q e = subst (λ (x : Peer). StandsBy x.moment []) (sym e) (inr (record { left = greeting; wrote = refl; asked = inl refl }))
all_stand every (t ∷ older) q (p, went, m) = one_turn p t.now t.news t.bodies t.replies t.deed q (since_call older) (all_stand every older p went) m

seen : (moment : Moment) (turns : List PeerTurn) → StandsBy moment turns → IsMet turns ⊎ IsNotAsked turns
seen (Away since wait) turns k = k
seen (Calling since) turns k = inr (record { left = greeting; wrote = ap (λ z. z ++ greeting) k.wrote; asked = inl k.asked })
seen (Greeting since question) turns k = inr (record { left = question.left; wrote = k.wrote; asked = inl k.asked })
seen (Greeted answer) turns k = inr (record { left = []; wrote = append-nil (wrote_since turns) ∙ k.wrote; asked = inl k.asked })
seen (Idle since wait) turns k = inl k
seen (Asked since question) turns k = inl k
seen (Delivering items connected full useful refused) turns k = inl k

pub only_the_met_are_asked : (every : ℕ) (turns : List PeerTurn) (q : Peer) → Went every turns q → IsMet (since_call turns) ⊎ IsNotAsked (since_call turns)
only_the_met_are_asked every turns q went = seen q.moment (since_call turns) (all_stand every turns q went)

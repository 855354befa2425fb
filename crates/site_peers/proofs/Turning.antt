-- What the peer's calls do, as turns.
use Rattle.std.proofs.Common.{◌≡◌, ◌≢◌, ◌∙◌, ℕ, ◌+◌, ◌-◌, min, Bool, true, false, List, [], ◌∷◌, map, take, drop, inl, inr, refl, ap, sym, subst}
use Rattle.std.specs.Prelude.{◌||◌}
use Rattle.std.proofs.lemmas.Bool.{leb-true, leb-false}
use Rattle.tardis_base.specs.declared.records.Item.{Item}
use Rattle.tardis_base.specs.Plain.{PlainMachine}
use Rattle.wire_lives.specs.declared.life_codes.TheConstants.{MET}
use Rattle.site_peers.specs.declared.deeds.Deed.{Deed}
use Rattle.site_peers.specs.declared.deeds.Deed.TheVariants.{Stay, Call}
use Rattle.site_peers.specs.declared.deeds.Failure.{Failure}
use Rattle.site_peers.specs.declared.deeds.Failure.TheVariants.{Late, NotMet, NoRoom}
use Rattle.site_peers.specs.declared.moments.Moment.{Moment}
use Rattle.site_peers.specs.declared.moments.Moment.TheVariants.{Away, Calling, Greeting, Greeted, Idle, Asked, Delivering}
use Rattle.site_peers.specs.declared.peers.Peer.{Peer}
use Rattle.site_peers.specs.Questions.{QuestionState}
use Rattle.site_peers.specs.Asking.{delivery, any_applied, refused_of, meeting, verdict}
use Rattle.site_peers.specs.Times.{patience, has_passed}
use Rattle.site_peers.specs.Moves.{News, Time, Through, most_a_turn, most_refused, at, Leaves, Finishes, Rests, Becomes, HasFailed, Breaks, Once, MayAsk, GoesBy, MayGreet, Moves, OnTime, OnThrough, is_called}
use Rattle.site_peers.specs.Turns.{AnswersFrom, Made, Turned}
use Rattle.site_peers.proofs.Delivering.{answered_then}

abbrev asked_so : (left came : List ℕ) → QuestionState
asked_so left came = record { left = left; came = came }

-- a question of which nothing was written and to which nothing came
pub question_of : (pull left came : List ℕ) → pull ≡ left → came ≡ [] → asked_so (drop 0 pull) came ≡ asked_so left []
question_of pull left came is none = ap (λ z. asked_so z came) is ∙ ap (λ z. asked_so left z) none

-- nothing is asked of the machine, which is as before
pub turned_alone : {S : Type 0} (m : PlainMachine S) (at_first : S → Type 0) (p : Peer) (news : News) (now : ℕ) (deed : Deed) (q : Peer) →
    Moves p now [] [] deed q news → Turned m at_first at_first p news now deed q
turned_alone m at_first p news now deed q moves = record {
  bodies = [];
  replies = [];
  answered = λ s f. record { state = s; answers = refl; stands = f };
  does = moves;
}

pub made_as : {S : Type 0} (m : PlainMachine S) (from to : S → Type 0) (P Q : List (List ℕ) → List (List ℕ) → Type 0) → Made m from to P →
    ((bodies replies : List (List ℕ)) → P bodies replies → Q bodies replies) → Made m from to Q
made_as m from to P Q made f = record {
  bodies = made.bodies;
  replies = made.replies;
  answered = made.answered;
  does = f made.bodies made.replies made.does;
}

module _ (p : Peer) (now : ℕ) (deed : Deed) (q : Peer) where
  rests : deed ≡ Stay → q ≡ p → Rests p now [] [] deed q
  rests d same = record { none = (refl, refl); deed_is = d; same = same }

  becomes : (e : Deed) (moment : Moment) → deed ≡ e → q ≡ at p moment → Becomes p now [] [] deed q e moment
  becomes e moment d n = record { none = (refl, refl); deed_is = d; next = n }

  breaks : (why : Failure) → HasFailed p now deed q why → Breaks p now [] [] deed q why
  breaks why f = record { none = (refl, refl); failed = f }

  once : (since wait : ℕ) (passed : Bool) (P : Type 0) → passed ≡ has_passed now since wait → passed ≡ true → P → Once p now [] [] deed q since wait P
  once since wait passed P is so holds = inl (leb-true wait (now - since) (sym is ∙ so), holds)

  until : (since wait : ℕ) (passed : Bool) (P : Type 0) → passed ≡ has_passed now since wait → passed ≡ false → Rests p now [] [] deed q →
      Once p now [] [] deed q since wait P
  until since wait passed P is fails r = inr (leb-false wait (now - since) (sym is ∙ fails), r)

  pub away_due : (since wait : ℕ) (passed : Bool) → p.moment ≡ Away since wait → passed ≡ has_passed now since wait → passed ≡ true → deed ≡ Call →
      q ≡ at p (Calling now) → Moves p now [] [] deed q Time
  away_due since wait passed is t holds d n = subst (λ m. OnTime p now [] [] deed q m) (sym is)
      (once since wait passed (Becomes p now [] [] deed q Call (Calling now)) t holds (becomes Call (Calling now) d n))

  pub away_waits : (since wait : ℕ) (passed : Bool) → p.moment ≡ Away since wait → passed ≡ has_passed now since wait → passed ≡ false → deed ≡ Stay →
      q ≡ p → Moves p now [] [] deed q Time
  away_waits since wait passed is t fails d same = subst (λ m. OnTime p now [] [] deed q m) (sym is)
      (until since wait passed (Becomes p now [] [] deed q Call (Calling now)) t fails (rests d same))

  pub idle_waits : (since wait : ℕ) (passed : Bool) → p.moment ≡ Idle since wait → passed ≡ has_passed now since wait → passed ≡ false → deed ≡ Stay →
      q ≡ p → Moves p now [] [] deed q Time
  idle_waits since wait passed is t fails d same = subst (λ m. OnTime p now [] [] deed q m) (sym is)
      (until since wait passed (MayAsk p now [] [] deed q) t fails (rests d same))

  on_through : (moment : Moment) → is_called moment ≡ false → Rests p now [] [] deed q → OnThrough p now [] [] deed q moment
  on_through (Away since wait) fails r = r
  on_through (Calling since) fails r = absurd (cc)
  on_through (Greeting since question) fails r = r
  on_through (Greeted answer) fails r = r
  on_through (Idle since wait) fails r = r
  on_through (Asked since question) fails r = r
  on_through (Delivering items connected full useful refused) fails r = r

  -- a call that came through, where there is none
  pub through_rests : (moment : Moment) → p.moment ≡ moment → is_called moment ≡ false → deed ≡ Stay → q ≡ p → Moves p now [] [] deed q Through
  through_rests moment is fails d same = subst (λ m. OnThrough p now [] [] deed q m) (sym is) (on_through moment fails (rests d same))

  on_call : (moment : Moment) → is_called moment ≡ true → MayGreet p now [] [] deed q → OnThrough p now [] [] deed q moment
  on_call (Away since wait) holds may = absurd (cc)
  on_call (Calling since) holds may = may
  on_call (Greeting since question) holds may = absurd (cc)
  on_call (Greeted answer) holds may = absurd (cc)
  on_call (Idle since wait) holds may = absurd (cc)
  on_call (Asked since question) holds may = absurd (cc)
  on_call (Delivering items connected full useful refused) holds may = absurd (cc)

  -- a call came through
  pub through_greets : (moment : Moment) → p.moment ≡ moment → is_called moment ≡ true → MayGreet p now [] [] deed q → Moves p now [] [] deed q Through
  through_greets moment is holds may = subst (λ m. OnThrough p now [] [] deed q m) (sym is) (on_call moment holds may)

-- the turn goes on as the verdict says
pub met_goes_on : (p : Peer) (now : ℕ) (bodies replies : List (List ℕ)) (deed : Deed) (q : Peer) (why n : ℕ) → why ≡ n → why ≡ MET →
    MayAsk p now bodies replies deed q → GoesBy p now bodies replies deed q n
met_goes_on p now bodies replies deed q why n is met may = subst (λ k. GoesBy p now bodies replies deed q k) is (inl (met, may))

pub not_met_fails : (p : Peer) (now : ℕ) (deed : Deed) (q : Peer) (why n : ℕ) → why ≡ n → why ≢ MET → HasFailed p now deed q (NotMet why) →
    GoesBy p now [] [] deed q n
not_met_fails p now deed q why n is other f =
    subst (λ k. GoesBy p now [] [] deed q k) is (inr (other, record { none = (refl, refl); failed = f }))

-- a peer is itself at its moment
pub as_it_is : (p : Peer) (moment : Moment) → p.moment ≡ moment → at p moment ≡ p
as_it_is p moment is = ap (λ m. at p m) (sym is)

-- a call or an answer is given up, or waited for
pub call_given_up : (p : Peer) (now : ℕ) (deed : Deed) (q : Peer) (since : ℕ) → p.moment ≡ Calling since →
    Once (at p (Calling since)) now [] [] deed q since patience (Breaks (at p (Calling since)) now [] [] deed q Late) → Moves p now [] [] deed q Time
call_given_up p now deed q since is once =
    subst (λ m. OnTime p now [] [] deed q m) (sym is)
    (subst (λ x. Once x now [] [] deed q since patience (Breaks x now [] [] deed q Late)) (as_it_is p (Calling since) is) once)

pub answer_given_up : (p : Peer) (now : ℕ) (deed : Deed) (q : Peer) (since : ℕ) (question : QuestionState) → p.moment ≡ Asked since question →
    Once (at p (Asked since question)) now [] [] deed q since patience (Breaks (at p (Asked since question)) now [] [] deed q Late) →
    Moves p now [] [] deed q Time
answer_given_up p now deed q since question is once =
    subst (λ m. OnTime p now [] [] deed q m) (sym is)
    (subst (λ x. Once x now [] [] deed q since patience (Breaks x now [] [] deed q Late)) (as_it_is p (Asked since question) is) once)

pub greeting_given_up : (p : Peer) (now : ℕ) (deed : Deed) (q : Peer) (since : ℕ) (question : QuestionState) → p.moment ≡ Greeting since question →
    Once (at p (Greeting since question)) now [] [] deed q since patience (Breaks (at p (Greeting since question)) now [] [] deed q Late) →
    Moves p now [] [] deed q Time
greeting_given_up p now deed q since question is once =
    subst (λ m. OnTime p now [] [] deed q m) (sym is)
    (subst (λ x. Once x now [] [] deed q since patience (Breaks x now [] [] deed q Late)) (as_it_is p (Greeting since question) is) once)

-- the site was asked to meet the peer, and the turn went on
pub introduction_put : {S : Type 0} (m : PlainMachine S) (from mid to : S → Type 0) (p : Peer) (now : ℕ) (deed : Deed) (q : Peer) (answer request reply : List ℕ) →
    p.moment ≡ Greeted answer → request ≡ meeting answer → AnswersFrom m from mid (request ∷ []) (reply ∷ []) →
    Made m mid to (λ bodies replies. GoesBy (at p (Greeted answer)) now bodies replies deed q (verdict reply)) → Turned m from to p Time now deed q
introduction_put m from mid to p now deed q answer request reply is asks first made = record {
  bodies = meeting answer ∷ made.bodies;
  replies = reply ∷ made.replies;
  answered = λ s f. answered_then m mid to (meeting answer ∷ []) made.bodies (reply ∷ []) made.replies s
      (subst (λ body. AnswersFrom m from mid (body ∷ []) (reply ∷ [])) asks first s f) made.answered;
  does = subst (λ moment. OnTime p now (meeting answer ∷ made.bodies) (reply ∷ made.replies) deed q moment) (sym is) (record {
    reply = reply;
    more = made.bodies;
    told = made.replies;
    asked = refl;
    replied = refl;
    goes = subst (λ x. GoesBy x now made.bodies made.replies deed q (verdict reply)) (as_it_is p (Greeted answer) is) made.does;
  });
}

pub idle_due : (p : Peer) (now : ℕ) (bodies replies : List (List ℕ)) (deed : Deed) (q : Peer) (since wait : ℕ) (passed : Bool) → p.moment ≡ Idle since wait →
    passed ≡ has_passed now since wait → passed ≡ true → MayAsk (at p (Idle since wait)) now bodies replies deed q → Moves p now bodies replies deed q Time
idle_due p now bodies replies deed q since wait passed is t so may =
    subst (λ m. OnTime p now bodies replies deed q m) (sym is)
    (inl (leb-true wait (now - since) (sym t ∙ so), subst (λ x. MayAsk x now bodies replies deed q) (as_it_is p (Idle since wait) is) may))

-- of the peer only what stays is used
failed_same : (p : Peer) (moment : Moment) (now : ℕ) (deed : Deed) (q : Peer) (why : Failure) → HasFailed (at p moment) now deed q why → HasFailed p now deed q why
failed_same p moment now deed q why f = record { deed_is = f.deed_is; next = f.next }

left_same : (p : Peer) (moment : Moment) (now : ℕ) (deed : Deed) (q : Peer) (left : List Item) (connected full useful : Bool) (refused : ℕ) →
    Leaves (at p moment) now deed q left connected full useful refused → Leaves p now deed q left connected full useful refused
left_same p moment now deed q [] connected full useful refused (inl (none, goes)) = inl (none, record { deed_is = goes.deed_is; next = goes.next })
left_same p moment now deed q [] connected full useful refused (inr (some, f)) = inr (some, failed_same p moment now deed q (NoRoom refused) f)
left_same p moment now deed q (item ∷ items) connected full useful refused goes = record { deed_is = goes.deed_is; next = goes.next }

pub items_delivered : {S : Type 0} (m : PlainMachine S) (from to : S → Type 0) (p : Peer) (now : ℕ) (deed : Deed) (q : Peer) (items left : List Item)
    (connected full useful more any : Bool) (refused count sum : ℕ) → p.moment ≡ Delivering items connected full useful refused → left ≡ drop most_a_turn items →
    (replies : List (List ℕ)) × (AnswersFrom m from to (map delivery (take most_a_turn items)) replies
    × ((more ≡ any_applied replies) × (count ≡ refused_of replies))) → any ≡ (useful || more) → sum ≡ min (refused + count) most_refused →
    Finishes (at p (Delivering left connected full any sum)) now deed q (Delivering left connected full any sum) → Turned m from to p Time now deed q
items_delivered m from to p now deed q items left connected full useful more any refused count sum is left_is (replies, (answered, (more_is, count_is))) any_is
    sum_is next = record {
      bodies = map delivery (take most_a_turn items);
      replies = replies;
      answered = answered;
      does = subst (λ moment. OnTime p now (map delivery (take most_a_turn items)) replies deed q moment) (sym is) (record {
        asked = refl;
        leaves = subst (λ l. Leaves p now deed q l connected full (useful || any_applied replies) (min (refused + refused_of replies) most_refused)) left_is
            (subst (λ b. Leaves p now deed q left connected full b (min (refused + refused_of replies) most_refused)) (any_is ∙ ap (λ b. useful || b) more_is)
            (subst (λ n. Leaves p now deed q left connected full any n) (sum_is ∙ ap (λ n. min (refused + n) most_refused) count_is)
            (left_same p (Delivering left connected full any sum) now deed q left connected full any sum next)));
      });
    }

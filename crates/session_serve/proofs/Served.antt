-- What a session did on its link.
use Rattle.std.proofs.Common.{◌≡◌, ◌≢◌, ℕ, arith, List, [], ◌∷◌, ◌++◌, length, Option, refl, sym, subst, append-nil}
use Rattle.std.specs.List.{concat}
use Rattle.tardis_base.specs.Plain.{Event, PlainMachine}
use Rattle.tardis_io.proofs.Told.{same, weaker}
use Rattle.tardis_io.specs.declared.statuses.Status.TheVariants.{NoMemory as OutOfMemory}
use Rattle.frame_cut.specs.Frames.{frames}
use Rattle.site_run.specs.Responses.{AnsweredBy}
use Rattle.site_run.specs.Endings.{Outcome, shape_of}
use Rattle.dag_lock.specs.Known.{Known, Begins, Ascends}
use Rattle.session_serve.specs.declared.ends.SessionEnd.{SessionEnd}
use Rattle.session_serve.specs.Sessions.{Session, Served, SessionOutcome, status_of, last_asked}
use Rattle.session_serve.specs.declared.ends.SessionEnd.TheVariants.{Ended, Cut, LongFrame, ReadFault, WriteFault, Spent, NoMemory}
use Rattle.trail_log.specs.declared.acted.Acted.{Acted}
use Rattle.session_serve.specs.Replies.{asked_by, close_of, reply_without}
use Rattle.session_serve.specs.Asking.{Asking, Asked, AsksOnce}
use Rattle.session_serve.specs.Passes.{new_places}
use Rattle.session_serve.proofs.Turning.{turns_on, replies_on, places_ascend}
use Rattle.session_serve.proofs.Stepping.{Stepped, stepped}
use Rattle.session_serve.proofs.Going.{places_behind}
use Rattle.session_serve.proofs.Talking.{Chained, chained, session_then}
use Rattle.wire_talk.specs.declared.request_codes.TheConstants.{CLOSE}

module _ {P : Type 0} (m : PlainMachine P) where
  pub longer_keeps_session : (start : P) (most session : ℕ) (last : List Event) (from : ℕ) (seen longer : List Event) (places : List ℕ)
      (bodies replies : List (List ℕ)) → Begins seen longer → Session m start most session last from seen places bodies replies →
      Session m start most session last from longer places bodies replies
  longer_keeps_session start most session last from seen longer places bodies replies b s = record {
    turns = s.turns;
    each = turns_on most seen longer from (asked_by session bodies ++ last) s.turns b s.each;
    replied = replies_on m start seen longer s.turns replies b s.replied;
    one_each = s.one_each;
    places_are = s.places_are;
  }

  pub session_ascends : (start : P) (most session : ℕ) (last : List Event) (from : ℕ) (seen : List Event) (places : List ℕ)
      (bodies replies : List (List ℕ)) → Session m start most session last from seen places bodies replies → Ascends from (length seen) places
  session_ascends start most session last from seen places bodies replies s =
      subst (λ ps. Ascends from (length seen) ps) (sym s.places_are) (places_ascend most seen from (asked_by session bodies ++ last) s.turns s.each)

  longer_keeps_served : (start : P) (most session : ℕ) (end : SessionEnd) (from : ℕ) (seen longer : List Event) (places : List ℕ)
      (old new : Option (List ℕ)) (bodies : List (List ℕ)) → Begins seen longer → Served m start most session end from seen places old new bodies →
      Served m start most session end from longer places old new bodies
  longer_keeps_served start most session end from seen longer places old new bodies b s = record {
    replies = s.replies;
    talk = longer_keeps_session start most session (last_asked end session) from seen longer places bodies s.replies b s.talk;
    given = s.given;
  }

  pub longer_keeps_outcome : (start : P) (most session : ℕ) (end : SessionEnd) (from : ℕ) (seen longer : List Event) (places : List ℕ)
      (old new : Option (List ℕ)) (first left : List ℕ) → Begins seen longer → SessionOutcome m start most session end from seen places old new first left
      → SessionOutcome m start most session end from longer places old new first left
  longer_keeps_outcome start most session end from seen longer places old new first left b o = record {
    bodies = o.bodies;
    held = o.held;
    read = o.read;
    answered = λ n e. longer_keeps_served start most session end n seen longer places old new o.bodies b (o.answered n e);
    ends = o.ends;
    spent = o.spent;
    front = o.front;
    whole = o.whole;
  }

-- a session without buffers did nothing
nothing_served : {P : Type 0} (m : PlainMachine P) (start : P) (most session from : ℕ) (p : Known) (g : Option (List ℕ)) →
    Served m start most session NoMemory from p.seen (new_places p p) g g []
nothing_served m start most session from p g = record {
  replies = [];
  talk = record { turns = []; each = tt; replied = tt; one_each = refl; places_are = places_behind p p [] (sym (append-nil p.owned)) };
  given = same g (λ y z. shape_of (status_of NoMemory) y z (frames [])) (λ x. sym (append-nil x));
}

pub nothing_done : {P : Type 0} (m : PlainMachine P) (start : P) (most session : ℕ) (p : Known) (g : Option (List ℕ)) (x : List ℕ) →
    SessionOutcome m start most session NoMemory (length p.seen) p.seen (new_places p p) g g x x
nothing_done m start most session p g x = record {
  bodies = [];
  held = [];
  read = record { whole = refl; each = tt };
  answered = λ n e. nothing_served m start most session n p g;
  ends = (refl, refl, refl);
  spent = λ e. absurd (omega (arith, e));
  front = λ all rest d. (all, refl);
  whole = λ all rest d. tt;
}

last_is : (end : SessionEnd) (session : ℕ) → status_of end ≢ OutOfMemory → last_asked end session ≡ close_of session ∷ []
last_is Ended session some = refl
last_is Cut session some = refl
last_is (LongFrame len) session some = refl
last_is ReadFault session some = refl
last_is WriteFault session some = refl
last_is Spent session some = refl
last_is NoMemory session some = absurd (some refl)

module _ {M P : Type 0} (opening : M → P) (m : PlainMachine P) where
  -- what was asked and answered, and then Close
  session_served : (a b d : Asking M) (end : SessionEnd) (acted : Acted) (out : List ℕ) (g h : Option (List ℕ)) (bodies : List (List ℕ))
      → status_of end ≢ OutOfMemory → AsksOnce opening m b (CLOSE ∷ []) acted out d
      → AnsweredBy (Asked (AsksOnce opening m)) (shape_of (status_of end)) (λ s. b ≡ s) g h [] [] a bodies
      → Served m (opening a.start.machine) a.start.max_trail a.session end (length a.pass.seen) d.pass.seen (new_places a.pass d.pass) g h bodies
  session_served a b d end acted out g h bodies some one an =
      let shape = shape_of (status_of end) in
      let chain : Chained opening m a b bodies an.answers = subst (λ t. Chained opening m a t bodies an.answers) (sym an.stands)
      (chained opening m a an.state bodies an.answers an.each) in
      let step : Stepped m (opening a.start.machine) a.start.max_trail b.pass d.pass (a.session, CLOSE ∷ []) (reply_without acted out) acted =
      subst (λ (k : Asking M). Stepped m (opening k.start.machine) k.start.max_trail b.pass d.pass (k.session, CLOSE ∷ []) (reply_without acted out) acted)
      chain.same (stepped opening m b.start b.pass d.pass (b.session, CLOSE ∷ []) out acted one.ended) in
      let replies = chain.talked.replies in
      record {
        replies = replies;
        talk = subst (λ last. Session m (opening a.start.machine) a.start.max_trail a.session last (length a.pass.seen) d.pass.seen
            (new_places a.pass d.pass) bodies replies) (sym (last_is end a.session some))
            (session_then m (opening a.start.machine) a.start.max_trail a.session a.pass b.pass d.pass bodies an.answers (a.session, CLOSE ∷ [])
            (reply_without acted out) acted chain.talked step);
        given = weaker g h (λ y z. shape (y ++ []) (z ++ []) (concat an.answers)) (λ y z. shape y z (frames replies)) an.given
            (λ y z n. subst (λ x. shape x z (frames replies)) (append-nil y)
            (subst (λ x. shape (y ++ []) x (frames replies)) (append-nil z) (subst (λ x. shape (y ++ []) (z ++ []) x) chain.talked.framed n)));
      }

  pub session_outcome : (a b d : Asking M) (end : SessionEnd) (acted : Acted) (out : List ℕ) (g h : Option (List ℕ)) (first left : List ℕ)
      → status_of end ≢ OutOfMemory → AsksOnce opening m b (CLOSE ∷ []) acted out d
      → Outcome (status_of end) (λ s. a ≡ s) (λ s bodies. AnsweredBy (Asked (AsksOnce opening m)) (shape_of (status_of end))
      (λ t. b ≡ t) g h [] [] s bodies) first left
      → SessionOutcome m (opening a.start.machine) a.start.max_trail a.session end (length a.pass.seen) d.pass.seen (new_places a.pass d.pass) g h first left
  session_outcome a b d end acted out g h first left some one o = record {
    bodies = o.bodies;
    held = o.held;
    read = o.read;
    answered = λ n e. subst (λ k. Served m (opening a.start.machine) a.start.max_trail a.session end k d.pass.seen (new_places a.pass d.pass) g h o.bodies)
        (sym e)
        (session_served a b d end acted out g h o.bodies some one (o.answered a refl));
    ends = o.ends;
    spent = o.spent;
    front = o.front;
    whole = o.whole;
  }

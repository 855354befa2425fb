-- Bodies that were asked in turn.
use Rattle.std.proofs.Common.{◌≡◌, ◌≤◌, ℕ, List, [], ◌∷◌, ◌++◌, length, refl, sym, ap, ◌∙◌, subst, append_assoc, append-nil}
use Rattle.std.specs.List.{concat}
use Rattle.tardis_base.specs.Plain.{Event, PlainMachine}
use Rattle.frame_cut.specs.Frames.{frame, frames}
use Rattle.site_run.specs.Responses.{InTurn}
use Rattle.trail_log.specs.declared.acted.Acted.{Acted}
use Rattle.dag_lock.specs.Known.{Known, Begins}
use Rattle.session_serve.specs.Turns.{Turn, HadTurns, left_by, place_with, places_of}
use Rattle.session_serve.specs.Replies.{asked_by, request_in, reply_without, AreReplies}
use Rattle.session_serve.specs.Asking.{Asking, Asked, AsksOnce, at_first}
use Rattle.session_serve.specs.Sessions.{Session}
use Rattle.session_serve.specs.Passes.{new_places}
use Rattle.session_serve.proofs.Fronts.{begins_then, begins_length}
use Rattle.session_serve.proofs.Turning.{turn_on, turns_later, turns_then, places_then, left_within, replies_on, replies_first, reply_on}
use Rattle.session_serve.proofs.Stepping.{Stepped, stepped, turn}
use Rattle.session_serve.proofs.Going.{places_behind}

-- bodies that were asked from p on, up to q
pub record Talked {P : Type 0} (m : PlainMachine P) (start : P) (most session : ℕ) (p q : Known) (bodies answers : List (List ℕ)) : Type 0 where
  pub replies : List (List ℕ)
  pub turns : List Turn
  pub framed : concat answers ≡ frames replies
  pub each : HadTurns most q.seen (length p.seen) (asked_by session bodies) turns
  pub replied : AreReplies m start q.seen turns replies
  pub one_each : length replies ≡ length bodies
  pub owned : q.owned ≡ p.owned ++ places_of turns
  pub seen : Begins p.seen q.seen

module _ {P : Type 0} (m : PlainMachine P) (start : P) (most session : ℕ) where
  talked_none : (p : Known) → Talked m start most session p p [] []
  talked_none p = record {
    replies = [];
    turns = [];
    framed = refl;
    each = tt;
    replied = tt;
    one_each = refl;
    owned = sym (append-nil p.owned);
    seen = ([], sym (append-nil p.seen));
  }

  -- a step, and then more
  talked_more : (p u q : Known) (body reply : List ℕ) (r : Acted) (answer : List ℕ) (bodies answers : List (List ℕ)) →
      Stepped m start most p u (session, request_in body) reply r → answer ≡ frame reply → Talked m start most session u q bodies answers →
      Talked m start most session p q (body ∷ bodies) (answer ∷ answers)
  talked_more p u q body reply r answer bodies answers s framed t =
      let left : left_by (turn s.found r) ≤ length u.seen = left_within most u.seen (session, request_in body) (turn s.found r) s.is_turn in
      record {
        replies = reply ∷ t.replies;
        turns = turn s.found r ∷ t.turns;
        framed = ap (λ z. z ++ concat answers) framed ∙ ap (λ z. frame reply ++ z) t.framed;
        each = (
          s.later,
          turn_on most u.seen q.seen (session, request_in body) (turn s.found r) t.seen s.is_turn,
          turns_later most q.seen (left_by (turn s.found r)) (length u.seen) (asked_by session bodies) t.turns left t.each,
        );
        replied = (reply_on m start u.seen q.seen s.found r reply t.seen s.replied, t.replied);
        one_each = λ i. ℕ.suc (t.one_each i);
        owned = t.owned ∙ (ap (λ z. z ++ places_of t.turns) s.owned ∙ append_assoc p.owned (place_with s.found r) (places_of t.turns));
        seen = begins_then p.seen u.seen q.seen s.seen t.seen;
      }

-- what was asked stands on the same lock, for the same session
pub record Chained {M P : Type 0} (opening : M → P) (m : PlainMachine P) (s t : Asking M) (bodies answers : List (List ℕ)) : Type 0 where
  pub same : at_first t ≡ at_first s
  pub talked : Talked m (opening s.start.machine) s.start.max_trail s.session s.pass t.pass bodies answers

module _ {M P : Type 0} (opening : M → P) (m : PlainMachine P) where
  chained_none : (s : Asking M) → Chained opening m s s [] []
  chained_none s = record { same = refl; talked = talked_none m (opening s.start.machine) s.start.max_trail s.session s.pass }

  -- the talk behind a step is of the same lock and session
  talked_same : (s u t : Asking M) (bodies answers : List (List ℕ)) → at_first u ≡ at_first s →
      Talked m (opening u.start.machine) u.start.max_trail u.session u.pass t.pass bodies answers →
      Talked m (opening s.start.machine) s.start.max_trail s.session u.pass t.pass bodies answers
  talked_same s u t bodies answers same h = subst (λ (a : Asking M). Talked m (opening a.start.machine) a.start.max_trail a.session u.pass t.pass bodies
      answers) same h

  chained_more : (s u t : Asking M) (body answer : List ℕ) (bodies answers : List (List ℕ)) → Asked (AsksOnce opening m) s body answer u →
      Chained opening m u t bodies answers → Chained opening m s t (body ∷ bodies) (answer ∷ answers)
  chained_more s u t body answer bodies answers (acted, reply, one, framed) c = record {
    same = c.same ∙ one.same;
    talked = talked_more m (opening s.start.machine) s.start.max_trail s.session s.pass u.pass t.pass body (reply_without acted reply) acted answer bodies
        answers
        (stepped opening m s.start s.pass u.pass (s.session, request_in body) reply acted one.ended) framed
        (talked_same s u t bodies answers one.same c.talked);
  }

  pub chained : (s t : Asking M) (bodies answers : List (List ℕ)) → InTurn (Asked (AsksOnce opening m)) s bodies answers t →
      Chained opening m s t bodies answers
  chained s t [] [] e = subst (λ u. Chained opening m s u [] []) (sym e) (chained_none s)
  chained s t (body ∷ bodies) (answer ∷ answers) h = chained_more s h.0 t body answer bodies answers h.1.0 (chained h.0 t bodies answers h.1.1)
  chained s t [] (answer ∷ answers) h = absurd h
  chained s t (body ∷ bodies) [] h = absurd h

-- a session that asked nothing behind the bodies
module _ {P : Type 0} (m : PlainMachine P) (start : P) (most session : ℕ) where
  pub session_open : (p q : Known) (bodies answers : List (List ℕ)) (t : Talked m start most session p q bodies answers) →
      Session m start most session [] (length p.seen) q.seen (new_places p q) bodies t.replies
  session_open p q bodies answers t = record {
    turns = t.turns;
    each = subst (λ es. HadTurns most q.seen (length p.seen) es t.turns) (sym (append-nil (asked_by session bodies))) t.each;
    replied = t.replied;
    one_each = t.one_each;
    places_are = places_behind p q (places_of t.turns) t.owned;
  }

  -- and one that asked one thing more
  pub session_then : (p u q : Known) (bodies answers : List (List ℕ)) (e : Event) (reply : List ℕ) (r : Acted)
      (t : Talked m start most session p u bodies answers) → Stepped m start most u q e reply r →
      Session m start most session (e ∷ []) (length p.seen) q.seen (new_places p q) bodies t.replies
  session_then p u q bodies answers e reply r t s =
      let last = turn s.found r in
      let owned : q.owned ≡ p.owned ++ places_of (t.turns ++ last ∷ []) =
      s.owned ∙ (ap (λ z. z ++ place_with s.found r) t.owned
      ∙ (append_assoc p.owned (places_of t.turns) (place_with s.found r) ∙ ap (λ z. p.owned ++ z) (sym (places_then t.turns last)))) in
      record {
        turns = t.turns ++ last ∷ [];
        each = turns_then most u.seen q.seen (length p.seen) (asked_by session bodies) t.turns e last s.seen (begins_length p.seen u.seen t.seen) t.each
            s.later s.is_turn;
        replied = replies_first m start q.seen t.turns (last ∷ []) t.replies (replies_on m start u.seen q.seen t.turns t.replies s.seen t.replied);
        one_each = t.one_each;
        places_are = places_behind p q (places_of (t.turns ++ last ∷ [])) owned;
      }

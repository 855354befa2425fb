-- A step of the lock is a turn.
use Rattle.std.proofs.Common.{◌≡◌, ◌≤◌, ℕ, ◌+◌, List, [], ◌∷◌, ◌++◌, length, take, refl, sym, ap, ◌∙◌, subst, arith, append-nil, length-append}
use Rattle.std.specs.List.{slice_get}
use Rattle.std.proofs.Math.Seq.{take-append_seam, take-length}
use Rattle.tardis_base.specs.Plain.{Event, PlainMachine}
use Rattle.trail_log.specs.Trail.{Kept, bytes_of}
use Rattle.trail_log.specs.Ends.{IsFullAt}
use Rattle.trail_log.specs.declared.acted.Acted.{Acted}
use Rattle.trail_log.specs.declared.acted.Acted.TheVariants.{Done, TrailFull, NoMemory}
use Rattle.dag_lock.specs.Known.{Known, Begins}
use Rattle.dag_lock.specs.Steps.{Ended}
use Rattle.session_serve.specs.Turns.{Turn, IsTurn, place_with}
use Rattle.session_serve.specs.Replies.{IsReplyTo, reply_without}
use Rattle.session_serve.proofs.Fronts.{at_end, begins_then, begins_length}

abbrev pub turn : ℕ → Acted → Turn
turn found r = record { found = found; acted = r }

-- the step was a turn, of which the pass afterwards knows
pub record Stepped {P : Type 0} (m : PlainMachine P) (start : P) (most : ℕ) (p q : Known) (e : Event) (reply : List ℕ) (r : Acted) : Type 0 where
  pub found : ℕ
  pub later : length p.seen ≤ found
  pub is_turn : IsTurn most q.seen e (turn found r)
  pub replied : IsReplyTo m start q.seen found r reply
  pub owned : q.owned ≡ p.owned ++ place_with found r
  pub seen : Begins p.seen q.seen

module _ {M P : Type 0} (opening : M → P) (m : PlainMachine P) (z : Kept M) where
  pub stepped : (p q : Known) (e : Event) (out : List ℕ) (r : Acted) → Ended opening m z p e out q r →
      Stepped m (opening z.machine) z.max_trail p q e (reply_without r out) r
  stepped p q e out Done (before, begins, seen, owned, reply, room) = record {
    found = length before;
    later = begins_length p.seen before begins;
    is_turn = record {
      within = omega (arith, ap length seen, length-append before (e ∷ []));
      room = subst (λ front. IsFullAt Done (bytes_of front) (length e.1 + 6) z.max_trail)
          (sym (ap (take (length before)) seen ∙ take-append_seam before (e ∷ []))) room;
      entry = λ _. ap (λ l. slice_get l (length before)) seen ∙ at_end before e [];
    };
    replied = reply;
    owned = owned;
    seen = begins_then p.seen before q.seen begins (e ∷ [], seen);
  }
  stepped p q e out (TrailFull bytes) (stays, out_is, room) = record {
    found = length q.seen;
    later = begins_length p.seen q.seen stays.0;
    is_turn = record {
      within = omega arith;
      room = subst (λ front. IsFullAt (TrailFull bytes) (bytes_of front) (length e.1 + 6) z.max_trail) (sym (take-length q.seen)) room;
      entry = λ d. absurd (cc);
    };
    replied = refl;
    owned = stays.1 ∙ sym (append-nil p.owned);
    seen = stays.0;
  }
  stepped p q e out NoMemory (stays, out_is, room) = record {
    found = length q.seen;
    later = begins_length p.seen q.seen stays.0;
    is_turn = record {
      within = omega arith;
      room = subst (λ front. IsFullAt NoMemory (bytes_of front) (length e.1 + 6) z.max_trail) (sym (take-length q.seen)) room;
      entry = λ d. absurd (cc);
    };
    replied = refl;
    owned = stays.1 ∙ sym (append-nil p.owned);
    seen = stays.0;
  }

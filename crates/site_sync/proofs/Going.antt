-- Steps one behind another.
use Rattle.std.proofs.Common.{◌≡◌, ◌≢◌, ℕ, List, [], ◌∷◌, ◌++◌, length, Some, refl, ap, sym, ◌∙◌, subst, append_assoc, append-nil}
use Rattle.tardis_base.specs.Plain.{Event, PlainMachine, reply_at, state_after}
use Rattle.trail_log.specs.Trail.{Kept}
use Rattle.trail_log.specs.declared.acted.Acted.{Acted}
use Rattle.trail_log.specs.declared.acted.Acted.TheVariants.{Done, TrailFull, NoMemory}
use Rattle.dag_lock.specs.Known.{Known, Begins}
use Rattle.dag_lock.specs.Steps.{Ended, Keeps}
use Rattle.site_sync.specs.Steps.{GoesOn, StepsOnce, Asks}

begins_then : (xs ys zs : List Event) → Begins xs ys → Begins ys zs → Begins xs zs
begins_then xs ys zs (a, p) (b, q) = (a ++ b, q ∙ (ap (λ t. t ++ b) p ∙ append_assoc xs a b))

pub goes_nowhere : (p : Known) → GoesOn p p
goes_nowhere p = record { keeps = (refl, refl); seen = ([], sym (append-nil p.seen)); places = []; owned = sym (append-nil p.owned) }

pub goes_both : (p q r : Known) → GoesOn p q → GoesOn q r → GoesOn p r
goes_both p q r g h = record {
  keeps = (h.keeps.0 ∙ g.keeps.0, h.keeps.1 ∙ g.keeps.1);
  seen = begins_then p.seen q.seen r.seen g.seen h.seen;
  places = g.places ++ h.places;
  owned = h.owned ∙ (ap (λ z. z ++ h.places) g.owned ∙ append_assoc p.owned g.places h.places);
}

-- the reply at the place behind these entries
pub reply_behind : {P : Type 0} (m : PlainMachine P) (s : P) (xs : List Event) (e : Event) (ys : List Event) → reply_at m s (xs ++ e ∷ ys) (length xs)
    ≡ Some (m.reply (state_after m s xs) e)
reply_behind m s [] e ys = refl
reply_behind m s (x ∷ xs) e ys = reply_behind m (m.step s x) xs e ys

module _ {M P : Type 0} (opening : M → P) (m : PlainMachine P) (z : Kept M) where
  goes_once : (p q : Known) (e : Event) (out : List ℕ) (r : Acted) → Keeps p q → Ended opening m z p e out q r → GoesOn p q
  goes_once p q e out Done k s = record {
    keeps = k;
    seen = begins_then p.seen s.0 q.seen s.1 (e ∷ [], s.2);
    places = length s.0 ∷ [];
    owned = s.3;
  }
  goes_once p q e out (TrailFull bytes) k s = record { keeps = k; seen = s.0.0; places = []; owned = s.0.1 ∙ sym (append-nil p.owned) }
  goes_once p q e out NoMemory k s = record { keeps = k; seen = s.0.0; places = []; owned = s.0.1 ∙ sym (append-nil p.owned) }

  pub goes_step : (p q : Known) (e : Event) (out : List ℕ) (r : Acted) → StepsOnce opening m z p e out q r → GoesOn p q
  goes_step p q e out r s = goes_once p q e out r s.keeps s.ended

  pub goes_then : (p q t : Known) (e : Event) (out : List ℕ) (r : Acted) → GoesOn p q → StepsOnce opening m z q e out t r → GoesOn p t
  goes_then p q t e out r g s = goes_both p q t g (goes_step q t e out r s)

  -- a step that wasn't answered has no reply
  emptied : (p q : Known) (e : Event) (out : List ℕ) (r : Acted) → r ≢ Done → Ended opening m z p e out q r → Ended opening m z p e [] q r
  emptied p q e out Done other s = absurd (other refl)
  emptied p q e out (TrailFull bytes) other s = (s.0, refl, s.2)
  emptied p q e out NoMemory other s = (s.0, refl, s.2)

  pub unanswered : (p q : Known) (e : Event) (out : List ℕ) (r : Acted) → r ≢ Done → StepsOnce opening m z p e out q r → StepsOnce opening m z p e [] q r
  unanswered p q e out r other s = record { keeps = s.keeps; ended = emptied p q e out r other s.ended }

  -- one step more that was answered
  pub asks_then : (p q t : Known) (es : List Event) (ys : List (List ℕ)) (e : Event) (y : List ℕ) → Asks opening m z p es ys q →
      StepsOnce opening m z q e y t Done → Asks opening m z p (es ++ e ∷ []) (ys ++ y ∷ []) t
  asks_then p q t [] [] e y a s = (t, subst (λ k. StepsOnce opening m z k e y t Done) a s, refl)
  asks_then p q t (x ∷ xs) (w ∷ ws) e y a s = (a.0, a.1, asks_then a.0 q t xs ws e y a.2 s)
  asks_then p q t [] (w ∷ ws) e y a s = absurd a
  asks_then p q t (x ∷ xs) [] e y a s = absurd a

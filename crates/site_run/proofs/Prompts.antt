-- What was answered and given when a take was made.
use Rattle.std.proofs.Common.{◌≡◌, ℕ, List, [], ◌∷◌, ◌++◌, Option, Some, None, map, sym, ap, ◌∙◌, subst, append_assoc}
use Rattle.std.proofs.lemmas.List.{append-nil}
use Rattle.std.specs.List.{AllByRecursion}
use Rattle.tardis_base.specs.Plain.{PlainMachine}
use Rattle.tardis_io.specs.Told.{WhileTold}
use Rattle.tardis_io.specs.Moments.{Moment, with_take}
use Rattle.tardis_io.proofs.Told.{weaker}
use Rattle.site_run.specs.Forms.{Form}
use Rattle.frame_cut.specs.Events.{event_of}
use Rattle.site_run.specs.Responses.{Whole, AnsweredBy}
use Rattle.site_run.specs.Machines.{MachineMay, Answered}
use Rattle.site_run.specs.Prompt.{EachTake, AllSoFar, UpToDate}
use Rattle.site_run.proofs.Takings.{Taking}
use Rattle.site_run.proofs.Replies.{answered_events}

-- all of some, and then one more
all_and_one : (P : Moment → Type 0) (made : List Moment) (m : Moment) → AllByRecursion P made → P m → AllByRecursion P (made ++ (m ∷ []))
all_and_one P [] m a p = (p, tt)
all_and_one P (x ∷ xs) m a p = (a.0, all_and_one P xs m a.1 p)

all_weaker : (P Q : Moment → Type 0) (made : List Moment) → ((m : Moment) → P m → Q m) → AllByRecursion P made → AllByRecursion Q made
all_weaker P Q [] f a = tt
all_weaker P Q (x ∷ xs) f a = (f x a.0, all_weaker P Q xs f a.1)

-- no take was made
pub each_none : (old : Option (List Moment)) (P : Moment → Type 0) → EachTake old old P
each_none None P = tt
each_none (Some old) P = ([], (sym (append-nil old), tt))

-- one more take was made
pub each_more : (old mid new : Option (List Moment)) (left given : Option (List ℕ)) (P : Moment → Type 0) → EachTake old mid P →
    new ≡ with_take mid left given → P (record { left = left; given = given }) → EachTake old new P
each_more None None new left given P e is p = subst (λ n. EachTake None n P) (sym is) tt
each_more (Some old) (Some mid) new left given P e is p =
    let one : List Moment = record { left = left; given = given } ∷ [] in
    subst (λ n. EachTake (Some old) n P) (sym is)
    (e.0 ++ one, (ap (λ z. z ++ one) e.1.0 ∙ append_assoc old e.0 one, all_and_one P e.0 (record { left = left; given = given }) e.1.1 p))
each_more None (Some mid) new left given P e is p = absurd e
each_more (Some old) None new left given P e is p = absurd e

pub each_weaker : (old new : Option (List Moment)) (P Q : Moment → Type 0) → ((m : Moment) → P m → Q m) → EachTake old new P → EachTake old new Q
each_weaker None None P Q f e = tt
each_weaker (Some old) (Some new) P Q f e = (e.0, (e.1.0, all_weaker P Q e.0 f e.1.1))
each_weaker None (Some new) P Q f e = e
each_weaker (Some old) None P Q f e = e

module _ (F : Form) {S : Type 0} (may : S → List ℕ → List ℕ → S → Type 0) (from to : S → Type 0) (g h : Option (List ℕ)) where
  -- whatever state was reached
  some_state : (s : S) (bodies : List (List ℕ)) → AnsweredBy may Whole to g h [] [] s bodies → AnsweredBy may Whole (λ _. Unit {0}) g h [] [] s bodies
  some_state s bodies a = record { answers = a.answers; state = a.state; each = a.each; stands = tt; given = a.given }

  -- between two pieces all is up to date
  pub up_to_date : (most taken : ℕ) (held : List ℕ) (old left : Option (List ℕ)) → WhileTold old left (Taking F may most from to g h taken held) → F.IsPart held
      → WhileTold old left (AllSoFar F from (λ s bodies. AnsweredBy may Whole (λ _. Unit {0}) g h [] [] s bodies))
  up_to_date most taken held old left told partial =
      weaker old left (Taking F may most from to g h taken held) (AllSoFar F from (λ s bodies. AnsweredBy may Whole (λ _. Unit {0}) g h [] [] s bodies)) told
      (λ x y t. record { bodies = t.1.bodies; held = held; read = t.1.read; partial = partial; answered = λ s f. some_state s t.1.bodies (t.1.answered s f) })

-- answers in turn are replies to events
pub machine_prompt : {S : Type 0} (m : PlainMachine S) (from : S → Type 0) (g : Option (List ℕ)) (old : Option (List ℕ)) (p q : Option (List Moment))
    → EachTake p q
    (λ moment. WhileTold old moment.left (UpToDate from (λ s bodies. AnsweredBy (MachineMay m) Whole (λ _. Unit {0}) g moment.given [] [] s bodies)))
    → EachTake p q (λ moment. WhileTold old moment.left (UpToDate from (λ s bodies. Answered m Whole (λ _. Unit {0}) g moment.given s (map event_of bodies))))
machine_prompt m from g old p q e =
    each_weaker p q
    (λ moment. WhileTold old moment.left (UpToDate from (λ s bodies. AnsweredBy (MachineMay m) Whole (λ _. Unit {0}) g moment.given [] [] s bodies)))
    (λ moment. WhileTold old moment.left (UpToDate from (λ s bodies. Answered m Whole (λ _. Unit {0}) g moment.given s (map event_of bodies))))
    (λ moment w. weaker old moment.left (UpToDate from (λ s bodies. AnsweredBy (MachineMay m) Whole (λ _. Unit {0}) g moment.given [] [] s bodies))
    (UpToDate from (λ s bodies. Answered m Whole (λ _. Unit {0}) g moment.given s (map event_of bodies))) w
    (λ x y u. record {
      bodies = u.bodies;
      held = u.held;
      read = u.read;
      partial = u.partial;
      answered =
          λ s f. answered_events m Whole (λ _. Unit {0}) g moment.given s u.bodies (u.answered s f);
    })) e

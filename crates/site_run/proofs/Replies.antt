-- Answers of a machine, as replies to events.
use Rattle.std.proofs.Common.{◌≡◌, ℕ, false, List, [], ◌∷◌, ◌++◌, Option, ◌⊎◌, map, refl, ap, ◌∙◌, subst, inl, inr}
use Rattle.std.proofs.lemmas.List.{append-nil}
use Rattle.std.specs.List.{concat}
use Rattle.tardis_base.specs.Plain.{Event, PlainMachine, Answers, no_memory}
use Rattle.tardis_io.proofs.Told.{weaker}
use Rattle.tardis_io.specs.declared.statuses.Status.{Status}
use Rattle.frame_cut.specs.Frames.{frame, frames}
use Rattle.frame_cut.specs.Events.{event_of}
use Rattle.site_run.specs.Responses.{InTurn, AnsweredBy}
use Rattle.site_run.specs.Machines.{MachineMay, Answered}
use Rattle.site_run.specs.Endings.{Outcome, shape_of}

-- one reply, and then more
answers_more : {S : Type 0} (m : PlainMachine S) (s : S) (e : Event) (y : List ℕ) (u : S) (es : List Event) (ys : List (List ℕ)) (t : S) →
    Answers m s (e ∷ []) (y ∷ []) u → Answers m u es ys t → Answers m s (e ∷ es) (y ∷ ys) t
answers_more m s e y u es ys t p q =
    elim p as (λ _. ((y ≡ m.reply s e) × Answers m (m.step s e) es ys t) ⊎ ((y ≡ no_memory) × (m.is_sure e ≡ false) × Answers m s es ys t)) [
      | inl a ↦ inl (a.0, subst (λ x. Answers m x es ys t) a.1 q)
      | inr b ↦ inr (b.0, b.1, subst (λ x. Answers m x es ys t) b.2 q)
    ]

-- the replies of answers in turn
record Replied {S : Type 0} (m : PlainMachine S) (s : S) (bodies answers : List (List ℕ)) (t : S) : Type 0 where
  replies : List (List ℕ)
  framed : concat answers ≡ frames replies
  answered : Answers m s (map event_of bodies) replies t

replied_more : {S : Type 0} (m : PlainMachine S) (s : S) (body answer : List ℕ) (u : S) (bodies answers : List (List ℕ)) (t : S) →
    MachineMay m s body answer u → Replied m u bodies answers t → Replied m s (body ∷ bodies) (answer ∷ answers) t
replied_more m s body answer u bodies answers t one more = record {
  replies = one.0 ∷ more.replies;
  framed = ap (λ z. z ++ concat answers) one.1.0 ∙ ap (λ z. frame one.0 ++ z) more.framed;
  answered = answers_more m s (event_of body) one.0 u (map event_of bodies) more.replies t one.1.1 more.answered;
}

replied : {S : Type 0} (m : PlainMachine S) (s : S) (bodies answers : List (List ℕ)) (t : S) → InTurn (MachineMay m) s bodies answers t →
    Replied m s bodies answers t
replied m s [] [] t p = record { replies = []; framed = refl; answered = p }
replied m s (body ∷ bodies) (answer ∷ answers) t p = replied_more m s body answer p.0 bodies answers t p.1.0 (replied m p.0 bodies answers t p.1.1)
replied m s [] (answer ∷ answers) t p = absurd p
replied m s (body ∷ bodies) [] t p = absurd p

-- bodies that were answered in turn are events that replies answer
pub answered_events : {S : Type 0} (m : PlainMachine S) (shape : List ℕ → List ℕ → List ℕ → Type 0) (to : S → Type 0) (g h : Option (List ℕ)) (s : S)
    (bodies : List (List ℕ)) → AnsweredBy (MachineMay m) shape to g h [] [] s bodies → Answered m shape to g h s (map event_of bodies)
answered_events m shape to g h s bodies a =
    let r = replied m s bodies a.answers a.state a.each in
    record {
      replies = r.replies;
      state = a.state;
      answers = r.answered;
      stands = a.stands;
      given = weaker g h (λ y z. shape (y ++ []) (z ++ []) (concat a.answers)) (λ y z. shape y z (frames r.replies)) a.given
          (λ y z n. subst (λ x. shape x z (frames r.replies)) (append-nil y)
          (subst (λ x. shape (y ++ []) x (frames r.replies)) (append-nil z) (subst (λ x. shape (y ++ []) (z ++ []) x) r.framed n)));
    }

-- an outcome by answers in turn is one by replies
pub outcome_weaker : {S : Type 0} (status : Status) (from : S → Type 0) (P Q : S → List (List ℕ) → Type 0) (first left : List ℕ) →
    ((s : S) (bodies : List (List ℕ)) → P s bodies → Q s bodies) → Outcome status from P first left → Outcome status from Q first left
outcome_weaker status from P Q first left f o = record {
  bodies = o.bodies;
  held = o.held;
  read = o.read;
  answered = λ s g. f s o.bodies (o.answered s g);
  ends = o.ends;
  spent = o.spent;
  front = o.front;
  whole = o.whole;
}

-- an outcome of a loop that answers by a machine's replies
pub machine_outcome : {S : Type 0} (m : PlainMachine S) (status : Status) (from to : S → Type 0) (g h : Option (List ℕ)) (first left : List ℕ)
    → Outcome status from (λ s bodies. AnsweredBy (MachineMay m) (shape_of status) to g h [] [] s bodies) first left
    → Outcome status from (λ s bodies. Answered m (shape_of status) to g h s (map event_of bodies)) first left
machine_outcome m status from to g h first left o =
    outcome_weaker status from (λ s bodies. AnsweredBy (MachineMay m) (shape_of status) to g h [] [] s bodies)
    (λ s bodies. Answered m (shape_of status) to g h s (map event_of bodies)) first left
    (λ s bodies a. answered_events m (shape_of status) to g h s bodies a) o

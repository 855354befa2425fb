-- Answers in turn, and what a sink has of them.
use Rattle.std.proofs.Common.{◌≡◌, ℕ, ◌≤◌, List, [], ◌∷◌, ◌++◌, length, Option, Result, Ok, Err, OnOk, OnErr, refl, sym, ap, ◌∙◌, subst, arith, append_assoc}
use Rattle.std.proofs.lemmas.List.{append-nil}
use Rattle.std.specs.List.{concat}
use Rattle.tardis_io.specs.Told.{WhileTold, GivesAll}
use Rattle.tardis_io.proofs.Told.{same, then}
use Rattle.site_run.specs.Responses.{Whole, Front, InTurn, Responded, AnsweredBy}

pub concat-append : (xs ys : List (List ℕ)) → concat (xs ++ ys) ≡ concat xs ++ concat ys
concat-append [] ys = refl
concat-append (x ∷ xs) ys = ap (λ z. x ++ z) (concat-append xs ys) ∙ sym (append_assoc x (concat xs) (concat ys))

-- answers, and then more answers
pub in_turn_then : {S : Type 0} (may : S → List ℕ → List ℕ → S → Type 0) (s : S) (bodies : List (List ℕ)) (answers : List (List ℕ)) (t : S)
    (others more : List (List ℕ)) (u : S) → InTurn may s bodies answers t → InTurn may t others more u → InTurn may s (bodies ++ others) (answers ++ more) u
in_turn_then may s [] [] t others more u p q = subst (λ x. InTurn may x others more u) p q
in_turn_then may s (body ∷ bodies) (answer ∷ answers) t others more u p q = (p.0, (p.1.0, in_turn_then may p.0 bodies answers t others more u p.1.1 q))
in_turn_then may s [] (answer ∷ answers) t others more u p q = absurd p
in_turn_then may s (body ∷ bodies) [] t others more u p q = absurd p

-- all was given, and then all
pub whole_then : (x y z u v : List ℕ) → Whole x y u → Whole y z v → Whole x z (u ++ v)
whole_then x y z u v p q = q ∙ (ap (λ w. w ++ v) p ∙ append_assoc x u v)

-- all was given, and then a front
pub front_then : (most : ℕ) (x y z u v : List ℕ) → Whole x y u → Front most y z v → Front most x z (u ++ v)
front_then most x y z u v p q = (q.0, (q.1.0 ∙ (ap (λ w. w ++ v) p ∙ append_assoc x u v), q.1.1))

-- fewer are lacking than may be
pub front_weaker : (few most : ℕ) → few ≤ most → (x y u : List ℕ) → Front few x y u → Front most x y u
front_weaker few most less x y u p = (p.0, (p.1.0, omega (arith, p.1.1, less)))

-- bodies that were answered, and then more bodies
pub answered_then : {S : Type 0} (may : S → List ℕ → List ℕ → S → Type 0) (shape : List ℕ → List ℕ → List ℕ → Type 0) →
    ((x y z u v : List ℕ) → Whole x y u → shape y z v → shape x z (u ++ v))
    → (mid to : S → Type 0) (g h k : Option (List ℕ)) (p q r : List ℕ) (s : S) (bodies others : List (List ℕ))
    → AnsweredBy may Whole mid g h p q s bodies → ((t : S) → mid t → AnsweredBy may shape to h k q r t others) →
    AnsweredBy may shape to g k p r s (bodies ++ others)
answered_then may shape join mid to g h k p q r s bodies others a more =
    let b = more a.state a.stands in
    record {
      answers = a.answers ++ b.answers;
      state = b.state;
      each = in_turn_then may s bodies a.answers a.state others b.answers b.state a.each b.each;
      stands = b.stands;
      given = then g h k (λ y z. Whole (y ++ p) (z ++ q) (concat a.answers)) (λ y z. shape (y ++ q) (z ++ r) (concat b.answers))
          (λ y z. shape (y ++ p) (z ++ r) (concat (a.answers ++ b.answers)))
          a.given b.given
          (λ x y z m n. subst (λ w. shape (x ++ p) (z ++ r) w) (sym (concat-append a.answers b.answers))
          (join (x ++ p) (y ++ q) (z ++ r) (concat a.answers) (concat b.answers) m n));
    }

-- no body was answered
pub answered_none : {S : Type 0} (may : S → List ℕ → List ℕ → S → Type 0) (from : S → Type 0) (g : Option (List ℕ)) (p : List ℕ) (s : S) → from s →
    AnsweredBy may Whole from g g p p s []
answered_none may from g p s f = record {
  answers = [];
  state = s;
  each = refl;
  stands = f;
  given = same g (λ y z. Whole (y ++ p) (z ++ p) []) (λ x. sym (append-nil (x ++ p)));
}

-- one body was answered, and its answer gathered
pub answered_one : {S : Type 0} (may : S → List ℕ → List ℕ → S → Type 0) (to : S → Type 0) (g : Option (List ℕ)) (p q : List ℕ) (s : S) (body : List ℕ) →
    Responded may to s body p q → AnsweredBy may Whole to g g p q s (body ∷ [])
answered_one may to g p q s body r = record {
  answers = r.answer ∷ [];
  state = r.state;
  each = (r.state, (r.allowed, refl));
  stands = r.stands;
  given = same g (λ y z. Whole (y ++ p) (z ++ q) (r.answer ++ []))
      (λ x. ap (λ w. x ++ w) r.put ∙ (sym (append_assoc x p r.answer) ∙ ap (λ w. (x ++ p) ++ w) (sym (append-nil r.answer))));
}

-- what was gathered was written
pub answered_written : {S : Type 0} (may : S → List ℕ → List ℕ → S → Type 0) (to : S → Type 0) (g h : Option (List ℕ)) (p q r : List ℕ) (s : S)
    (bodies : List (List ℕ)) → AnsweredBy may Whole to g g p q s bodies → WhileTold g h (λ y z. z ≡ y ++ q) → r ≡ [] → AnsweredBy may Whole to g h p r s bodies
answered_written may to g h p q r s bodies a w empty = record {
  answers = a.answers;
  state = a.state;
  each = a.each;
  stands = a.stands;
  given = then g g h (λ y z. Whole (y ++ p) (z ++ q) (concat a.answers)) (λ y z. z ≡ y ++ q) (λ y z. Whole (y ++ p) (z ++ r) (concat a.answers)) a.given w
      (λ x y z m n. ap (λ e. z ++ e) empty ∙ (append-nil z ∙ (n ∙ m)));
}

-- or only a front of it
pub answered_lost : {S : Type 0} (may : S → List ℕ → List ℕ → S → Type 0) (to : S → Type 0) (g h : Option (List ℕ)) (p q : List ℕ) (most : ℕ) (s : S)
    (bodies : List (List ℕ)) → length q ≤ most → AnsweredBy may Whole to g g p q s bodies →
    WhileTold g h (λ y z. (lost : List ℕ) × ((z ++ lost ≡ y ++ q) × (length lost ≤ length q))) → AnsweredBy may (Front most) to g h p [] s bodies
answered_lost may to g h p q most s bodies few a w = record {
  answers = a.answers;
  state = a.state;
  each = a.each;
  stands = a.stands;
  given = then g g h (λ y z. Whole (y ++ p) (z ++ q) (concat a.answers)) (λ y z. (lost : List ℕ) × ((z ++ lost ≡ y ++ q) × (length lost ≤ length q)))
      (λ y z. Front most (y ++ p) (z ++ []) (concat a.answers)) a.given w
      (λ x y z m n. (n.0, (ap (λ e. e ++ n.0) (append-nil z) ∙ (n.1.0 ∙ m), omega (arith, n.1.1, few))));
}

-- a write of what was gathered, as its result says
pub written_ok : {S E : Type 0} (may : S → List ℕ → List ℕ → S → Type 0) (from to : S → Type 0) (g h : Option (List ℕ)) (p q r : List ℕ)
    (bodies : List (List ℕ)) (result : Result Unit E) → WhileTold g h (λ y z. GivesAll y z result q) → r ≡ [] →
    ((s : S) → from s → AnsweredBy may Whole to g g p q s bodies) → OnOk result ((s : S) → from s → AnsweredBy may Whole to g h p r s bodies)
written_ok may from to g h p q r bodies (Ok u) w empty a = λ s f. answered_written may to g h p q r s bodies (a s f) w empty
written_ok may from to g h p q r bodies (Err e) w empty a = tt

pub written_err : {S E : Type 0} (may : S → List ℕ → List ℕ → S → Type 0) (from to : S → Type 0) (g h : Option (List ℕ)) (p q : List ℕ) (most : ℕ)
    (bodies : List (List ℕ)) (result : Result Unit E) → length q ≤ most → WhileTold g h (λ y z. GivesAll y z result q) →
    ((s : S) → from s → AnsweredBy may Whole to g g p q s bodies) → OnErr result ((s : S) → from s → AnsweredBy may (Front most) to g h p [] s bodies)
written_err may from to g h p q most bodies (Ok u) few w a = tt
written_err may from to g h p q most bodies (Err e) few w a = λ s f. answered_lost may to g h p q most s bodies few (a s f) w

-- what holds after any error holds after this one
pub on_err : {A E : Type 0} (r : Result A E) (P : Type 0) → P → OnErr r P
on_err (Ok a) P p = tt
on_err (Err e) P p = p

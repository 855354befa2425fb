-- Answers in turn.
use Rattle.std.proofs.Common.{◌≡◌, ℕ, ◌+◌, length, List, [], ◌∷◌, ◌++◌, refl, sym, ap, ◌∙◌, subst, arith, append_assoc}
use Rattle.std.proofs.lemmas.List.{length-append, nil_from_length}
use Rattle.std.specs.List.{concat}
use Rattle.tardis_base.specs.Plain.{PlainMachine}
use Rattle.frame_cut.specs.Frames.{frame}
use Rattle.frame_cut.proofs.Words.{length-frame}
use Rattle.site_run.specs.Responses.{InTurn}
use Rattle.durable_run.specs.Replies.{MayAnswer}

pub concat-append : (xs ys : List (List ℕ)) → concat (xs ++ ys) ≡ concat xs ++ concat ys
concat-append [] ys = refl
concat-append (x ∷ xs) ys = ap (λ z. x ++ z) (concat-append xs ys) ∙ sym (append_assoc x (concat xs) (concat ys))

-- answers, and then more answers
pub in_turn_then : {S : Type 0} (may : S → List ℕ → List ℕ → S → Type 0) (s : S) (bodies : List (List ℕ)) (answers : List (List ℕ)) (t : S)
    (others more : List (List ℕ)) (u : S) → InTurn may s bodies answers t → InTurn may t others more u → InTurn may s (bodies ++ others) (answers ++ more) u
in_turn_then may s [] [] t others more u p q = subst (λ x. InTurn may x others more u) p q
in_turn_then may s (body ∷ bodies) (answer ∷ answers) t others more u p q = (p.0, (p.1.0, in_turn_then may p.0 bodies answers t others more u p.1.1 q))
in_turn_then may s [] (answer ∷ answers) t others more u p q = absurd p
in_turn_then may s (body ∷ bodies) [] t others more u p q = absurd p

-- answers have bytes: where there are none, no body was answered
pub none_answered : {S : Type 0} (plain : PlainMachine S) (state : S) (most : ℕ) (s : List (List ℕ)) (bodies answers t : List (List ℕ)) →
    InTurn (MayAnswer plain state most) s bodies answers t → concat answers ≡ [] → bodies ≡ []
none_answered plain state most s [] [] t p e = refl
none_answered plain state most s [] (answer ∷ answers) t p e = absurd p
none_answered plain state most s (body ∷ bodies) [] t p e = absurd p
none_answered plain state most s (body ∷ bodies) (answer ∷ answers) t p e =
    let reply = p.1.0.0 in
    let long : length answer ≡ length (frame reply) = ap length p.1.0.1.0 in
    let head : length (frame reply) ≡ 4 + length reply = length-frame reply in
    let whole : length (answer ++ concat answers) ≡ length answer + length (concat answers) = length-append answer (concat answers) in
    let nothing : length (answer ++ concat answers) ≡ 0 = ap length e in
    absurd (omega (arith, long, head, whole, nothing))

cons_not_nil : (x : List ℕ) (xs : List (List ℕ)) → x ∷ xs ≡ [] → ⊥
cons_not_nil x xs e = let n : length (x ∷ xs) ≡ 0 = ap length e in omega (arith, n)

-- and no entry came
pub none_staged : {S : Type 0} (plain : PlainMachine S) (state : S) (most : ℕ) (entries staged bodies answers : List (List ℕ)) →
    InTurn (MayAnswer plain state most) entries bodies answers (entries ++ staged) → bodies ≡ [] → staged ≡ []
none_staged plain state most entries staged [] [] p e =
    let same : length (entries ++ staged) ≡ length entries = ap length p in
    let sum : length (entries ++ staged) ≡ length entries + length staged = length-append entries staged in
    nil_from_length staged (omega (arith, same, sum))
none_staged plain state most entries staged [] (answer ∷ answers) p e = absurd p
none_staged plain state most entries staged (body ∷ bodies) answers p e = absurd (cons_not_nil body bodies e)

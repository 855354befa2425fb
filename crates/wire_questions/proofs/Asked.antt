-- What is answered where bytes are read as a question.
use Rattle.std.proofs.Common.{◌≡◌, ℕ, Bool, true, false, List, Option, Some, None, ap, sym, ◌∙◌, subst, refl}
use Rattle.std.specs.Prelude.{Result, Ok, Err, IfOk, IsErr, IsSome}
use Rattle.tardis_base.specs.declared.faults.NoMemory.{NoMemory}
use Rattle.tardis_base.specs.declared.faults.ReadFault.{ReadFault}
use Rattle.tardis_base.specs.declared.faults.ReadFault.TheVariants.{Malformed, NoMemory as OutOfMemory}
use Rattle.wire_item.specs.Spelled.{Spells}
use Rattle.wire_item.specs.Takings.{whole_of}
use Rattle.wire_item.proofs.Wholes.{Answers}
use Rattle.plain_questions.specs.declared.questions.Question.{Question}
use Rattle.plain_questions.specs.Spellings.{question_spelling}
use Rattle.plain_questions.specs.Valid.{is_question}
use Rattle.plain_questions.specs.Readings.{question_of, question_front}
use Rattle.plain_questions.proofs.Spelled.{questions-have-one-spelling}

-- what the answer says of the question that was read
pub record IsAsked (read : Result Question ReadFault) (result : Result (Option Question) NoMemory) : Type 0 where
  pub question : (q : Question) → read ≡ Ok q → result ≡ Ok (Some q)
  pub malformed : read ≡ Err Malformed → result ≡ Ok None
  pub wanting : read ≡ Err OutOfMemory → IsErr result

-- the answer is what the bytes are read as
abbrev IsAnswer : List ℕ → Result (Option Question) NoMemory → Type 0
IsAnswer bytes result = IfOk result (λ q. q ≡ question_of bytes) × (IsErr result → IsSome (question_of bytes))

some-of : (bytes : List ℕ) (o : Option Question) → question_of bytes ≡ o → (o ≡ None → ⊥) → IsSome (question_of bytes)
some-of bytes None e other = absurd (other refl)
some-of bytes (Some q) e other = subst (λ z. IsSome z) (sym e) refl

not-wanting : (o : Option Question) → IsErr {T = Option Question} {E = NoMemory} (Ok o) → ⊥
not-wanting o h = absurd (cc)

other-fault : ◌≡◌ {A = Result Question ReadFault} (Err OutOfMemory) (Err Malformed) → ⊥
other-fault e = absurd (cc)

pub is-answer : (bytes : List ℕ) (read : Result Question ReadFault) (result : Result (Option Question) NoMemory) →
    Answers is_question question_spelling question_front bytes read → IsAsked read result → IsAnswer bytes result
is-answer bytes (Ok q) result a asked =
    let is = asked.question q refl in
    subst (IsAnswer bytes) (sym is)
    (sym ((questions-have-one-spelling.some bytes q).1 a.spelled), λ h. absurd (not-wanting (Some q) h))
is-answer bytes (Err Malformed) result a asked =
    subst (IsAnswer bytes) (sym (asked.malformed refl)) (sym (a.malformed.0 refl), λ h. absurd (not-wanting None h))
is-answer bytes (Err OutOfMemory) result a asked = go result (asked.wanting refl)
  where
    go : (result : Result (Option Question) NoMemory) → IsErr result → IsAnswer bytes result
    go (Ok o) h = absurd (not-wanting o h)
    go (Err e) h = (tt, λ _. some-of bytes (question_of bytes) refl (λ none. other-fault (a.malformed.1 none)))

-- no memory is wanting for a question that takes none
pub is-sure : (bytes : List ℕ) (q : Question) (taken : Option (Result Question NoMemory)) (done : Bool) (read : Result Question ReadFault)
    (result : Result (Option Question) NoMemory)
    → Answers is_question question_spelling question_front bytes read → IsAsked read result → read ≡ whole_of taken done
    → ((e : NoMemory) → taken ≡ Some (Err e) → ⊥) → question_of bytes ≡ Some q → result ≡ Ok (Some q)
is-sure bytes q taken done read result a asked is free e = go read refl
  where
    same : (p : Question) → Some p ≡ Some q → p ≡ q
    same p e = cc

    some-none : Some q ≡ None → ⊥
    some-none e = absurd (cc)

    wants : (taken : Option (Result Question NoMemory)) (done : Bool) → whole_of taken done ≡ Err OutOfMemory → ((e : NoMemory) → taken ≡ Some (Err e) → ⊥) → ⊥
    wants None done h free = absurd (cc)
    wants (Some r) false h free = absurd (cc)
    wants (Some (Ok p)) true h free = absurd (cc)
    wants (Some (Err e)) true h free = free e refl

    go : (r : Result Question ReadFault) → read ≡ r → result ≡ Ok (Some q)
    go (Ok p) r =
        let spelled = subst (λ z. IfOk z (λ x. Spells is_question question_spelling bytes x)) r a.spelled in
        asked.question p r ∙ ap (λ x. Ok (Some x)) (same p (sym ((questions-have-one-spelling.some bytes p).1 spelled) ∙ e))
    go (Err Malformed) r = absurd (some-none (sym e ∙ a.malformed.0 r))
    go (Err OutOfMemory) r = absurd (wants taken done (sym is ∙ r) free)

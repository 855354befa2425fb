-- What is read of words whose names are tried one after another.
use Rattle.std.proofs.Common.{◌≡◌, ℕ, Bool, List, ◌∷◌, Option, Some, None, Result, ap, refl, subst, ◌∙◌}
use Rattle.std.specs.Prelude.{option_and_then}
use Rattle.tardis_base.specs.declared.faults.ReadFault.{ReadFault}
use Rattle.text_words.specs.Texts.{behind, by_prefix, read_behind}
use Rattle.wire_item.specs.Fronts.{Front, alone, whole}
use Rattle.shell_text.specs.Answers.{IsAnswerWhere}

-- the first name stands at the front
pub named-first : {A : Type 0} (name : List ℕ) (front : Front A) (rows : List (List ℕ × Front A)) (text left : List ℕ)
    → ◌≡◌ {A = Option (List ℕ)} (Some left) (behind name text) → front left ≡ by_prefix ((name, front) ∷ rows) text
named-first name front rows text left e = ap (λ o. read_behind front o (by_prefix rows text)) e

-- the first name doesn't stand there
pub named-later : {A : Type 0} (name : List ℕ) (front : Front A) (rows : List (List ℕ × Front A)) (text : List ℕ) (read : Option (List ℕ))
    → read ≡ behind name text → ((left : List ℕ) → read ≡ Some left → ⊥) → by_prefix rows text ≡ by_prefix ((name, front) ∷ rows) text
named-later name front rows text None e other = ap (λ o. read_behind front o (by_prefix rows text)) e
named-later name front rows text (Some left) e other = absurd (other left refl)

-- ---- all of the words

pub whole-first : {A : Type 0} (name : List ℕ) (front : Front A) (rows : List (List ℕ × Front A)) (text left : List ℕ) (result : Option A)
    → ◌≡◌ {A = Option (List ℕ)} (Some left) (behind name text) → result ≡ whole front left → result ≡ whole (by_prefix ((name, front) ∷ rows)) text
whole-first {A} name front rows text left result e h =
    h ∙ ap (option_and_then (λ (read : A × List ℕ). alone read.0 read.1)) (named-first name front rows text left e)

pub whole-later : {A : Type 0} (name : List ℕ) (front : Front A) (rows : List (List ℕ × Front A)) (text : List ℕ) (read : Option (List ℕ))
    (result : Option A) → read ≡ behind name text → ((left : List ℕ) → read ≡ Some left → ⊥) → result ≡ whole (by_prefix rows) text
    → result ≡ whole (by_prefix ((name, front) ∷ rows)) text
whole-later {A} name front rows text read result e other h =
    h ∙ ap (option_and_then (λ (read : A × List ℕ). alone read.0 read.1)) (named-later name front rows text read e other)

-- ---- answers

pub answer-first : {A : Type 0} (free : A → Bool) (name : List ℕ) (front : Front A) (rows : List (List ℕ × Front A)) (text left : List ℕ)
    (result : Result A ReadFault) → ◌≡◌ {A = Option (List ℕ)} (Some left) (behind name text) → IsAnswerWhere free (whole front left) result
    → IsAnswerWhere free (whole (by_prefix ((name, front) ∷ rows)) text) result
answer-first free name front rows text left result e h =
    subst (λ o. IsAnswerWhere free o result) (whole-first name front rows text left (whole front left) e refl) h

pub answer-later : {A : Type 0} (free : A → Bool) (name : List ℕ) (front : Front A) (rows : List (List ℕ × Front A)) (text : List ℕ)
    (read : Option (List ℕ)) (result : Result A ReadFault) → read ≡ behind name text → ((left : List ℕ) → read ≡ Some left → ⊥)
    → IsAnswerWhere free (whole (by_prefix rows) text) result → IsAnswerWhere free (whole (by_prefix ((name, front) ∷ rows)) text) result
answer-later free name front rows text read result e other h =
    subst (λ o. IsAnswerWhere free o result) (whole-later name front rows text read (whole (by_prefix rows) text) e other refl) h

-- the answer for what was read otherwise
pub answer-same : {A : Type 0} (free : A → Bool) (read other : Option A) (result : Result A ReadFault) → read ≡ other → IsAnswerWhere free read result
    → IsAnswerWhere free other result
answer-same free read other result e h = subst (λ o. IsAnswerWhere free o result) e h

pub none-other : (left : List ℕ) → ◌≡◌ {A = Option (List ℕ)} None (Some left) → ⊥
none-other left e = absurd (cc)

-- What is read of one part behind another.
use Rattle.std.proofs.Common.{◌≡◌, ℕ, List, Option, Some, None, Result, ap, refl, subst, ◌∙◌, false}
use Rattle.std.specs.Prelude.{option_map, option_and_then}
use Rattle.tardis_base.specs.declared.faults.ReadFault.{ReadFault}
use Rattle.wire_item.specs.Fronts.{Front, alone, both, made, whole}
use Rattle.shell_text.specs.Answers.{IsAnswerWhere}

pub whole-stop : {A B C : Type 0} (f : A × B → C) (first : Front A) (second : Front B) (text : List ℕ) → ◌≡◌ {A = Option (A × List ℕ)} None (first text)
    → None ≡ whole (made f (both first second)) text
whole-stop {A} {B} {C} f first second text e =
    ap (λ (o : Option (A × List ℕ)). option_and_then {T = C × List ℕ} (λ read. alone read.0 read.1)
    (option_map {T = (A × B) × List ℕ} (λ read. (f read.0, read.1))
    (option_and_then {T = A × List ℕ} {U = (A × B) × List ℕ} (λ read. made (λ b. (read.0, b)) second read.1) o))) e

pub whole-step : {A B C : Type 0} (f : A × B → C) (first : Front A) (second : Front B) (text : List ℕ) (a : A) (rest : List ℕ)
    → ◌≡◌ {A = Option (A × List ℕ)} (Some (a, rest)) (first text) → whole (made (λ b. f (a, b)) second) rest ≡ whole (made f (both first second)) text
whole-step {A} {B} {C} f first second text a rest e =
    go (second rest)
    ∙ ap (λ (o : Option (A × List ℕ)). option_and_then {T = C × List ℕ} (λ read. alone read.0 read.1)
    (option_map {T = (A × B) × List ℕ} (λ read. (f read.0, read.1))
    (option_and_then {T = A × List ℕ} {U = (A × B) × List ℕ} (λ read. made (λ b. (read.0, b)) second read.1) o))) e
  where
    go : (o : Option (B × List ℕ)) → option_and_then {T = C × List ℕ} (λ read. alone read.0 read.1)
        (option_map {T = B × List ℕ} (λ read. (f (a, read.0), read.1)) o)
        ≡ option_and_then {T = C × List ℕ} (λ read. alone read.0 read.1) (option_map {T = (A × B) × List ℕ} (λ read. (f read.0, read.1))
        (option_map {T = B × List ℕ} {U = (A × B) × List ℕ} (λ read. ((a, read.0), read.1)) o))
    go None = refl
    go (Some read) = refl

pub last-stop : {A B : Type 0} (f : A → B) (front : Front A) (text : List ℕ) → ◌≡◌ {A = Option (A × List ℕ)} None (front text)
    → None ≡ whole (made f front) text
last-stop {A} {B} f front text e =
    ap (λ (o : Option (A × List ℕ)). option_and_then {T = B × List ℕ} (λ read. alone read.0 read.1)
    (option_map {T = A × List ℕ} (λ read. (f read.0, read.1)) o)) e

pub last-step : {A B : Type 0} (f : A → B) (front : Front A) (text : List ℕ) (a : A) (rest : List ℕ)
    → ◌≡◌ {A = Option (A × List ℕ)} (Some (a, rest)) (front text) → alone (f a) rest ≡ whole (made f front) text
last-step {A} {B} f front text a rest e =
    ap (λ (o : Option (A × List ℕ)). option_and_then {T = B × List ℕ} (λ read. alone read.0 read.1)
    (option_map {T = A × List ℕ} (λ read. (f read.0, read.1)) o)) e

-- ---- answers

pub result-same : {A : Type 0} (read : Option A) (result other : Result A ReadFault) → result ≡ other → IsAnswerWhere (λ _. false) read result
    → IsAnswerWhere (λ _. false) read other
result-same {A} read result other e h = subst (λ (r : Result A ReadFault). IsAnswerWhere (λ _. false) read r) e h

-- What is answered where bytes are to spell one thing and nothing else.
use Rattle.std.proofs.Common.{◌≡◌, ◌↔◌, ℕ, Bool, true, false, ◌==◌, List, [], ◌∷◌, length, Option, Some, None, Result, Ok, Err, ap, sym, ◌∙◌, subst, refl}
use Rattle.std.proofs.Common.{arith, eqb-true}
use Rattle.std.specs.Prelude.{IfOk, option_and_then}
use Rattle.tardis_base.specs.declared.faults.NoMemory.{NoMemory}
use Rattle.tardis_base.specs.declared.faults.ReadFault.{ReadFault}
use Rattle.tardis_base.specs.declared.faults.ReadFault.TheVariants.{Malformed, NoMemory as OutOfMemory}
use Rattle.wire_item.specs.Fronts.{Front, alone, whole}
use Rattle.wire_item.specs.Spelled.{Spells}
use Rattle.wire_item.specs.Takings.{Makes, whole_of}
use Rattle.wire_item.proofs.Ways.{Reads}
use Rattle.wire_item.proofs.Laws.{whole-read, whole-spelled}
use Rattle.wire_item.proofs.Takings.{making, unmade}

-- the answer is the one that the bytes ask for
pub record Answers {A : Type 0} (valid : A → Bool) (spelling : A → List ℕ) (front : Front A) (bytes : List ℕ) (result : Result A ReadFault) : Type 0 where
  pub spelled : IfOk result (λ a. Spells valid spelling bytes a)
  pub malformed : (result ≡ Err Malformed) ↔ (whole front bytes ≡ None)

no_list : (rest : List ℕ) → (length rest == 0) ≡ true → rest ≡ []
no_list [] e = refl
no_list (x ∷ rest) e = absurd (omega (arith, eqb-true (length (x ∷ rest)) 0 e))

left_over : {A : Type 0} (front : Front A) (bytes : List ℕ) (a : A) (rest : List ℕ) → front bytes ≡ Some (a, rest) → (length rest == 0) ≡ false →
    whole front bytes ≡ None
left_over {A} front bytes a rest e f = ap (option_and_then (λ read. alone read.0 read.1)) e ∙ go rest f
  where
    go : (rest : List ℕ) → (length rest == 0) ≡ false → alone a rest ≡ None
    go [] f = absurd (cc)
    go (x ∷ rest) f = refl

some-none : {A : Type 0} (o : Option A) (a : A) → o ≡ Some a → o ≡ None → ⊥
some-none o a p q = absurd (cc)

pub answers : {A : Type 0} {valid : A → Bool} {spelling : A → List ℕ} {front : Front A} → Reads valid spelling front
    → (bytes : List ℕ) (taken : Option (Result A NoMemory)) (rest : List ℕ) (done : Bool) → Makes front bytes taken rest → done ≡ (length rest == 0)
    → (result : Result A ReadFault) → result ≡ whole_of taken done → Answers valid spelling front bytes result
answers {A} {valid} {spelling} {front} reads bytes taken rest done m d result e =
    subst (Answers valid spelling front bytes) (sym e) (go taken done m d)
  where
    malformed : whole front bytes ≡ None → Answers valid spelling front bytes (Err Malformed)
    malformed none = record { spelled = tt; malformed = ((λ _. none), (λ _. refl)) }

    not_malformed : (r : Result A ReadFault) → (r ≡ Err Malformed → ⊥) → (a : A) → whole front bytes ≡ Some a → (r ≡ Err Malformed) ↔ (whole front bytes ≡ None)
    not_malformed r other a w = ((λ same. absurd (other same)), (λ none. absurd (some-none (whole front bytes) a w none)))

    ok-other : (a : A) → ◌≡◌ {A = Result A ReadFault} (Ok a) (Err Malformed) → ⊥
    ok-other a e = absurd (cc)

    memory-other : ◌≡◌ {A = Result A ReadFault} (Err OutOfMemory) (Err Malformed) → ⊥
    memory-other e = absurd (cc)

    read_whole : (a : A) → front bytes ≡ Some (a, rest) → true ≡ (length rest == 0) → whole front bytes ≡ Some a
    read_whole a e d = whole-read front bytes a (e ∙ ap (λ r. Some (a, r)) (no_list rest (sym d)))

    go : (taken : Option (Result A NoMemory)) (done : Bool) → Makes front bytes taken rest → done ≡ (length rest == 0) →
        Answers valid spelling front bytes (whole_of taken done)
    go None done m d = malformed (ap (option_and_then (λ read. alone read.0 read.1)) (unmade front bytes rest m))
    go (Some result) false m d =
        let made = making front bytes rest result m in
        malformed (left_over front bytes made.0 rest made.1 (sym d))
    go (Some (Ok a)) true m d =
        let made = making front bytes rest (Ok a) m in
        let w : whole front bytes ≡ Some a = read_whole made.0 made.1 d ∙ ap (λ x. Some x) (sym made.2) in
        record { spelled = whole-spelled reads bytes a w; malformed = not_malformed (Ok a) (ok-other a) a w }
    go (Some (Err e)) true m d =
        let made = making front bytes rest (Err e) m in
        record { spelled = tt; malformed = not_malformed (Err OutOfMemory) memory-other made.0 (read_whole made.0 made.1 d) }

-- What is read of the fields of questions.
use Rattle.std.proofs.Common.{◌≡◌, ℕ, true, false, IsTrue, List, ◌∷◌, length, Option, Some, ap, sym, subst, ◌∙◌, inl, inr}
use Rattle.std.proofs.Common.{◌⊎◌}
use Rattle.std.specs.List.{list_all}
use Rattle.tardis_base.specs.declared.ids.StateId.{StateId}
use Rattle.tardis_base.specs.Valid.{is_within, is_id}
use Rattle.tardis_base.proofs.TestParts.{and-true}
use Rattle.std.specs.Prelude.{Result}
use Rattle.tardis_base.specs.declared.faults.NoMemory.{NoMemory}
use Rattle.wire_item.specs.Fronts.{Front, front_of_code, times}
use Rattle.wire_item.specs.Readings.{id_front, u8_front}
use Rattle.wire_item.specs.Takings.{Makes}
use Rattle.wire_item.proofs.Laws.{whole-spelled}
use Rattle.wire_item.proofs.Numbers.{reads-u8}
use Rattle.wire_item.proofs.Things.{reads-id}
use Rattle.wire_item.proofs.Ways.{many-times}
use Rattle.plain_questions.specs.declared.questions.Question.{Question}
use Rattle.plain_questions.specs.declared.questions.Question.TheVariants.{At, Keys, Scan, Record as RecordOf, Base, Sessions, Site as TheSite}
use Rattle.plain_questions.specs.Spellings.{question_spelling}
use Rattle.plain_questions.specs.Valid.{are_asked}
use Rattle.plain_questions.specs.Readings.{question_of}
use Rattle.plain_questions.proofs.Spelled.{reads-question}
use Rattle.wire_questions.specs.Memory.{takes_no_memory}

-- so many states are asked for as their number says
pub asked-tested : (n : ℕ) (mid : List ℕ) (xs : List StateId) (rest : List ℕ) → times id_front n mid ≡ Some (xs, rest) → are_asked xs ≡ is_within 1 8 n
asked-tested n mid xs rest e =
    let h = (many-times reads-id).only n mid xs rest e in
    and-true (is_within 1 8 (length xs)) (list_all is_id xs) h.1 ∙ ap (is_within 1 8) h.0

-- ===== Codes

-- a code of the questions that take no memory
abbrev pub IsSure : ℕ → Type 0
IsSure code = (code ≡ 67) ⊎ ((code ≡ 69) ⊎ (code ≡ 70))

same-code : (x y : ℕ) (xs ys : List ℕ) → ◌≡◌ {A = List ℕ} (x ∷ xs) (y ∷ ys) → x ≡ y
same-code x y xs ys e = cc

not-sure : false ≡ true → ⊥
not-sure e = absurd (cc)

sure-spelled : (q : Question) (code : ℕ) (mid : List ℕ) → code ∷ mid ≡ question_spelling q → IsTrue (takes_no_memory q) → IsSure code
sure-spelled (At state key) code mid e free = absurd (not-sure free)
sure-spelled (Keys state prefix after) code mid e free = absurd (not-sure free)
sure-spelled (Scan state prefix after) code mid e free = absurd (not-sure free)
sure-spelled (RecordOf state) code mid e free = inl (cc)
sure-spelled (Base states key) code mid e free = absurd (not-sure free)
sure-spelled (Sessions after) code mid e free = inr (inl (cc))
sure-spelled TheSite code mid e free = inr (inr (cc))

-- the code that is read of a question that takes no memory
pub sure-code : (q : Question) (old : List ℕ) (code : ℕ) (mid : List ℕ) → question_of old ≡ Some q → u8_front old ≡ Some (code, mid) →
    IsTrue (takes_no_memory q) → IsSure code
sure-code q old code mid e f free =
    sure-spelled q code mid (sym (reads-u8.only old code mid f).1 ∙ (whole-spelled reads-question old q e).1) free

-- a code that is no code of these questions
pub never-sure : (code k : ℕ) → code ≡ k → (k ≡ 67 → ⊥) → (k ≡ 69 → ⊥) → (k ≡ 70 → ⊥) → IsSure code → ⊥
never-sure code k is a b c (inl e) = a (sym is ∙ e)
never-sure code k is a b c (inr (inl e)) = b (sym is ∙ e)
never-sure code k is a b c (inr (inr e)) = c (sym is ∙ e)

-- the arm of a code, where a function makes what stands behind it
pub makes-arm : {B : Type 0} (rows : List (ℕ × Front B)) (k code : ℕ) (front : Front B) (old new : List ℕ) (r : Option (Result B NoMemory))
    → code ≡ k → front_of_code k rows ≡ front → Makes front old r new → Makes (front_of_code code rows) old r new
makes-arm rows k code front old new r e row m = subst (λ f. Makes f old r new) (sym (ap (λ j. front_of_code j rows) e ∙ row)) m

-- What is told at a door.
use Rattle.std.proofs.Common.{◌≡◌, ℕ, ◌+◌, ◌≤◌, true, false, List, [], length, Result, Ok, IsTrue, Option, Some, None, refl, sym, ap, subst, ◌∙◌, arith}
use Rattle.std.specs.Prelude.{IsErr, IsSome}
use Rattle.std.specs.Option.{option_map_or}
use Rattle.std.proofs.lemmas.Bool.{both_ways, cond-true, cond-false}
use Rattle.tardis_base.specs.Sizes.{longest_frame}
use Rattle.tardis_base.specs.declared.replies.Refusal.TheVariants.{Unsupported}
use Rattle.tardis_base.specs.declared.replies.Reply.TheVariants.{Refused}
use Rattle.wire_talk.specs.Spellings.{reply_spelling}
use Rattle.tardis_base.specs.declared.faults.NoMemory.{NoMemory}
use Rattle.plain_site.specs.Site.{Site}
use Rattle.plain_site.specs.Sound.{IsSound}
use Rattle.plain_questions.specs.declared.questions.Question.{Question}
use Rattle.plain_questions.specs.declared.questions.Question.TheVariants.{At, Keys, Scan, Record as RecordOf, Base, Sessions, Site as TheSite}
use Rattle.plain_questions.specs.declared.questions.Answered.{Answered}
use Rattle.plain_questions.specs.Spellings.{answer_spelling}
use Rattle.plain_questions.specs.Valid.{is_answer}
use Rattle.plain_questions.specs.Readings.{question_of}
use Rattle.wire_questions.specs.Laws.{told_over_bytes, AnswersToBytesFit}
use Rattle.wire_questions.specs.Memory.{takes_no_memory}
use Rattle.site_questions.specs.Sure.{is_sure_question}
use Rattle.site_lives.specs.Acquainted.{Acquainted}
use Rattle.site_doors.specs.Rules.{is_question_at, code_of, told, told_at, is_sure_at, is_sure_body}

module _ (door code : ℕ) (bytes : List ℕ) (is : code ≡ code_of bytes) where
  -- a question is told
  pub told-question : is_question_at door code ≡ true → (a : Acquainted) → told a bytes ≡ told_at door a bytes
  told-question t a =
      sym (cond-true (is_question_at door (code_of bytes)) (told a bytes) (reply_spelling (Refused (Unsupported (code_of bytes))))
      (ap (is_question_at door) (sym is) ∙ t))

  -- all else is refused
  pub told-refused : is_question_at door code ≡ false → (a : Acquainted) → reply_spelling (Refused (Unsupported code)) ≡ told_at door a bytes
  told-refused f a =
      ap (λ k. reply_spelling (Refused (Unsupported k))) is
      ∙ sym (cond-false (is_question_at door (code_of bytes)) (told a bytes) (reply_spelling (Refused (Unsupported (code_of bytes))))
      (ap (is_question_at door) (sym is) ∙ f))

  pub sure-question : is_question_at door code ≡ true → IsTrue (is_sure_at door bytes) → IsTrue (is_sure_body bytes)
  sure-question t sure = sym (cond-true (is_question_at door (code_of bytes)) (is_sure_body bytes) true (ap (is_question_at door) (sym is) ∙ t)) ∙ sure

-- behind nothing
none-before : (n most : ℕ) → n ≤ most → 0 + n ≤ most
none-before n most h = omega (arith, h)

-- what a sound site tells has room in an empty buffer
pub fits : AnswersToBytesFit → (site : Site) → IsSound site → (bytes out : List ℕ) (told : Answered) → out ≡ [] →
    told ≡ told_over_bytes site bytes → length out + length (answer_spelling told) ≤ longest_frame
fits fit site sound bytes out told empty is =
    subst (λ o. length o + length (answer_spelling told) ≤ longest_frame) (sym empty)
    (none-before (length (answer_spelling told)) longest_frame (subst (λ t. length (answer_spelling t) ≤ longest_frame) (sym is) (fit.short site bytes sound)))

pub valid : AnswersToBytesFit → (site : Site) → IsSound site → (bytes : List ℕ) (told : Answered) →
    told ≡ told_over_bytes site bytes → IsTrue (is_answer told)
valid fit site sound bytes told is = subst (λ t. IsTrue (is_answer t)) (sym is) (fit.valid site bytes sound)

-- ===== Memory

-- a question that memory can't fail is read without
read-without : (q : Question) → IsTrue (is_sure_question q) → IsTrue (takes_no_memory q)
read-without (At x k) e = absurd (both_ways false refl e)
read-without (Keys x prefix after) e = absurd (both_ways false refl e)
read-without (Scan x prefix after) e = absurd (both_ways false refl e)
read-without (RecordOf x) e = absurd (both_ways false refl e)
read-without (Base xs k) e = absurd (both_ways false refl e)
read-without (Sessions after) e = absurd (both_ways false refl e)
read-without TheSite e = refl

pub sure-is_read : (bytes : List ℕ) (r : Result (Option Question) NoMemory) → IsErr r → (IsErr r → IsSome (question_of bytes)) →
    ((q : Question) → question_of bytes ≡ Some q → IsTrue (takes_no_memory q) → r ≡ Ok (Some q)) → IsTrue (is_sure_body bytes) → ⊥
sure-is_read bytes r failed wanting read sure = go (question_of bytes) refl (wanting failed) sure
  where
    go : (o : Option Question) → question_of bytes ≡ o → IsSome o → IsTrue (option_map_or is_sure_question o true) → ⊥
    go None is some sure = absurd (both_ways false refl some)
    go (Some q) is some sure = absurd (both_ways false refl (subst IsErr (read q is (read-without q sure)) failed))

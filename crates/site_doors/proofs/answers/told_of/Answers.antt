use Rattle.std.proofs.Common.{◌≡◌, Some, refl, sym, subst, ◌∙◌}
use Rattle.std.specs.Prelude.{IfOk, IsErr, IsTrue, true}
use Rattle.std.specs.Option.{option_map_or}
use Rattle.plain_questions.specs.declared.questions.Denial.TheVariants.{Malformed}
use Rattle.plain_questions.specs.declared.questions.Answered.TheVariants.{Refused}
use Rattle.plain_questions.specs.Answer.{answer}
use Rattle.site_questions.specs.Sure.{is_sure_question}
use Rattle.site_doors.proofs.Told.{sure-is_read}
use Rattle.site_doors.proofs.answers.told_of.Goals as goal

pub returns-in-Ok-Some-clause-told : goal.returns-in-Ok-Some-clause-told
returns-in-Ok-Some-clause-told c = λ plain stands.
    let some : c.in-Ok-Some.field-0 ≡ Some c.in-Ok-Some.question = cc in
    subst (λ o. IfOk c.answer.result (λ told. told ≡ option_map_or (answer plain) o (Refused Malformed))) (sym some ∙ c.in-Ok-Some.ensures.asked)
    (c.answer.ensures.told plain stands)

pub returns-in-Ok-Some-clause-sure : goal.returns-in-Ok-Some-clause-sure
returns-in-Ok-Some-clause-sure c = λ sure.
    let some : c.in-Ok-Some.field-0 ≡ Some c.in-Ok-Some.question = cc in
    c.answer.ensures.sure (subst (λ o. IsTrue (option_map_or is_sure_question o true)) (sym (sym some ∙ c.in-Ok-Some.ensures.asked)) sure)

pub returns-in-Err-clause-sure : goal.returns-in-Err-clause-sure
returns-in-Err-clause-sure c = λ sure.
    absurd
    (sure-is_read c.args.bytes.now c.read_question.result (subst IsErr (sym c.in-Err.is) refl) c.read_question.ensures.wanting c.read_question.ensures.sure sure)

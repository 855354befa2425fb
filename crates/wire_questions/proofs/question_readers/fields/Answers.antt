use Rattle.std.proofs.Common.{refl, None, Ok, ap, true, false, arith}
use Rattle.wire_item.specs.Fronts.{made, both, front_of_code}
use Rattle.wire_item.specs.Readings.{id_front, key_front}
use Rattle.wire_item.proofs.Takings.{makes, makes-none}
use Rattle.wire_talk.proofs.Arms.{sure-arm, sure-free}
use Rattle.wire_talk.proofs.RequestFields.{rows-other}
use Rattle.plain_questions.specs.declared.questions.Question.TheVariants.{At, Record as RecordOf, Base, Sessions, Site as TheSite}
use Rattle.plain_questions.specs.Readings.{asked_front, behind_front, page_front, question_rows}
use Rattle.wire_questions.specs.Pages.{page_question}
use Rattle.wire_questions.proofs.Fields.{makes-arm, never-sure}
use Rattle.wire_questions.proofs.question_readers.fields.Goals as goal

pub returns-in-64-clause-read : goal.returns-in-64-clause-read
returns-in-64-clause-read c =
    makes-arm question_rows 64 c.args.code (made (λ p. At p.0 p.1) (both id_front key_front)) c.args.reader.now c.read_at.new.reader c.read_at.result
    c.in-64.is refl c.read_at.ensures

pub returns-in-64-clause-sure : goal.returns-in-64-clause-sure
returns-in-64-clause-sure c = λ e free is. never-sure c.args.code 64 c.in-64.is (λ t. omega (arith, t)) (λ t. omega (arith, t)) (λ t. omega (arith, t)) free

pub returns-in-65-clause-read : goal.returns-in-65-clause-read
returns-in-65-clause-read c =
    makes-arm question_rows 65 c.args.code (made (page_question false) page_front) c.args.reader.now c.read_page.new.reader c.read_page.result
    c.in-65.is refl c.read_page.ensures

pub returns-in-66-clause-read : goal.returns-in-66-clause-read
returns-in-66-clause-read c =
    makes-arm question_rows 66 c.args.code (made (page_question true) page_front) c.args.reader.now c.read_page-in-66.new.reader c.read_page-in-66.result
    c.in-66.is refl c.read_page-in-66.ensures

pub returns-in-67-clause-read : goal.returns-in-67-clause-read
returns-in-67-clause-read c =
    sure-arm question_rows 67 c.args.code (made RecordOf id_front) c.args.reader.now c.read_record.new.reader c.read_record.result c.sure.result c.in-67.is refl
    c.sure.ensures c.read_record.ensures

pub returns-in-67-clause-sure : goal.returns-in-67-clause-sure
returns-in-67-clause-sure c = λ e free is. sure-free c.read_record.result c.sure.result e c.sure.ensures is

pub returns-in-68-clause-read : goal.returns-in-68-clause-read
returns-in-68-clause-read c =
    makes-arm question_rows 68 c.args.code (made (λ p. Base p.0 p.1) (both asked_front key_front)) c.args.reader.now c.read_base.new.reader c.read_base.result
    c.in-68.is refl c.read_base.ensures

pub returns-in-69-clause-read : goal.returns-in-69-clause-read
returns-in-69-clause-read c =
    sure-arm question_rows 69 c.args.code (made Sessions behind_front) c.args.reader.now c.read_sessions.new.reader c.read_sessions.result c.sure-in-69.result
    c.in-69.is refl c.sure-in-69.ensures c.read_sessions.ensures

pub returns-in-69-clause-sure : goal.returns-in-69-clause-sure
returns-in-69-clause-sure c = λ e free is. sure-free c.read_sessions.result c.sure-in-69.result e c.sure-in-69.ensures is

pub returns-in-70-clause-read : goal.returns-in-70-clause-read
returns-in-70-clause-read c =
    makes (front_of_code c.args.code question_rows) c.args.reader.now c.args.reader.now (Ok TheSite) TheSite
    (ap (λ k. front_of_code k question_rows c.args.reader.now) c.in-70.is) refl

pub returns-in_default-clause-read : goal.returns-in_default-clause-read
returns-in_default-clause-read c =
    makes-none (front_of_code c.args.code question_rows) c.args.reader.now c.args.reader.now None refl
    (rows-other question_rows 64 70 c.args.code c.args.reader.now refl (λ m low high e. grind (arith, low, high, e)))

use Rattle.std.proofs.Common.{ap, ◌∙◌, subst}
use Rattle.wire_item.specs.Takings.{Makes}
use Rattle.wire_item.proofs.Wholes.{answers}
use Rattle.plain_questions.specs.Readings.{question_front, question_of}
use Rattle.plain_questions.proofs.Spelled.{reads-question}
use Rattle.wire_questions.proofs.Asked.{IsAsked, is-answer, is-sure}
use Rattle.wire_questions.proofs.question_readers.read_question.Goals as goal

pub returns-clause-asked : goal.returns-clause-asked
returns-clause-asked c =
    let made = subst (λ b. Makes question_front b c.question-taken.result c.question-taken.new.reader) c.new-reader.ensures c.question-taken.ensures.read in
    let read = answers reads-question c.args.bytes.now c.question-taken.result c.question-taken.new.reader c.is_done.result made c.is_done.ensures
    c.whole.result c.whole.ensures in
    let asked : IsAsked c.whole.result c.asked.result =
    record { question = c.asked.ensures.question; malformed = c.asked.ensures.malformed; wanting = c.asked.ensures.wanting } in
    (is-answer c.args.bytes.now c.whole.result c.asked.result read asked).0

pub returns-clause-wanting : goal.returns-clause-wanting
returns-clause-wanting c =
    let made = subst (λ b. Makes question_front b c.question-taken.result c.question-taken.new.reader) c.new-reader.ensures c.question-taken.ensures.read in
    let read = answers reads-question c.args.bytes.now c.question-taken.result c.question-taken.new.reader c.is_done.result made c.is_done.ensures
    c.whole.result c.whole.ensures in
    let asked : IsAsked c.whole.result c.asked.result =
    record { question = c.asked.ensures.question; malformed = c.asked.ensures.malformed; wanting = c.asked.ensures.wanting } in
    (is-answer c.args.bytes.now c.whole.result c.asked.result read asked).1

pub returns-clause-sure : goal.returns-clause-sure
returns-clause-sure c = λ q e free.
    let made = subst (λ b. Makes question_front b c.question-taken.result c.question-taken.new.reader) c.new-reader.ensures c.question-taken.ensures.read in
    let read = answers reads-question c.args.bytes.now c.question-taken.result c.question-taken.new.reader c.is_done.result made c.is_done.ensures
    c.whole.result c.whole.ensures in
    let asked : IsAsked c.whole.result c.asked.result =
    record { question = c.asked.ensures.question; malformed = c.asked.ensures.malformed; wanting = c.asked.ensures.wanting } in
    is-sure c.args.bytes.now q c.question-taken.result c.is_done.result c.whole.result c.asked.result read asked c.whole.ensures
    (λ fault is. c.question-taken.ensures.sure q fault (ap question_of c.new-reader.ensures ∙ e) free is) e

use Rattle.std.proofs.Common.{refl}
use Rattle.wire_item.specs.Fronts.{front_of_code}
use Rattle.wire_item.specs.Readings.{u8_front}
use Rattle.wire_item.proofs.Takings.{taken, untaken, makes-none}
use Rattle.wire_item.proofs.Codes.{code-none, code-read}
use Rattle.wire_talk.proofs.RequestFields.{makes-at}
use Rattle.plain_questions.specs.Readings.{question_front, question_rows}
use Rattle.wire_questions.proofs.Fields.{sure-code}
use Rattle.wire_questions.proofs.question_readers.question.Goals as goal

pub returns-in_err-code-clause-read : goal.returns-in_err-code-clause-read
returns-in_err-code-clause-read c =
    let none = untaken u8_front c.args.reader.now c.u8.new.self c.in_err-code.ensures in
    makes-none question_front c.args.reader.now c.u8.new.self c.from_residual.result c.from_residual.ensures
    (code-none question_rows c.args.reader.now refl none)

pub returns-clause-read : goal.returns-clause-read
returns-clause-read c =
    let code = taken u8_front c.args.reader.now c.u8.new.self c.in_ok-code.code c.in_ok-code.ensures in
    makes-at question_front (front_of_code c.in_ok-code.code question_rows) c.args.reader.now c.u8.new.self c.fields.result c.fields.new.reader
    (code-read question_rows c.args.reader.now c.in_ok-code.code c.u8.new.self code) c.fields.ensures.read

pub returns-clause-sure : goal.returns-clause-sure
returns-clause-sure c = λ q e read free is.
    let code = taken u8_front c.args.reader.now c.u8.new.self c.in_ok-code.code c.in_ok-code.ensures in
    c.fields.ensures.sure e (sure-code q c.args.reader.now c.in_ok-code.code c.u8.new.self read code free) is

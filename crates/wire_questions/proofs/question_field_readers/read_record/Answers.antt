use Rattle.plain_questions.specs.declared.questions.Question.TheVariants.{Record as RecordOf}
use Rattle.wire_item.specs.Fronts.{made}
use Rattle.wire_item.specs.Readings.{id_front}
use Rattle.wire_item.proofs.Fronts.{made-read}
use Rattle.wire_item.proofs.Takings.{taken, untaken, takes, takes-none, made-none}
use Rattle.wire_questions.proofs.question_field_readers.read_record.Goals as goal

pub returns-in_err-state : goal.returns-in_err-state
returns-in_err-state c =
    takes-none (made RecordOf id_front) c.args.reader.now c.id.new.self c.from_residual.result c.from_residual.ensures
    (made-none RecordOf id_front c.args.reader.now (untaken id_front c.args.reader.now c.id.new.self c.in_err-state.ensures))

pub returns : goal.returns
returns c =
    let read = taken id_front c.args.reader.now c.id.new.self c.in_ok-state.state c.in_ok-state.ensures in
    takes (made RecordOf id_front) c.args.reader.now c.id.new.self (RecordOf c.in_ok-state.state)
    (made-read RecordOf id_front c.args.reader.now c.in_ok-state.state c.id.new.self read)

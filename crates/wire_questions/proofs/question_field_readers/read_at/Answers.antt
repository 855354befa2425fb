use Rattle.plain_questions.specs.declared.questions.Question.TheVariants.{At}
use Rattle.wire_item.specs.Fronts.{made, both}
use Rattle.wire_item.specs.Readings.{key_front, id_front}
use Rattle.wire_item.proofs.Fronts.{made-read}
use Rattle.wire_item.proofs.Takings.{taken, untaken, makes, makes-none, made-none, after-none, after-then_none, after-then}
use Rattle.wire_questions.proofs.question_field_readers.read_at.Goals as goal

pub returns-in_err-state : goal.returns-in_err-state
returns-in_err-state c =
    let none = untaken id_front c.args.reader.now c.id.new.self c.in_err-state.ensures in
    makes-none (made (λ p. At p.0 p.1) (both id_front key_front)) c.args.reader.now c.id.new.self c.from_residual.result c.from_residual.ensures
    (made-none (λ p. At p.0 p.1) (both id_front key_front) c.args.reader.now (after-none id_front (λ _. key_front) c.args.reader.now none))

pub returns-in_err-key : goal.returns-in_err-key
returns-in_err-key c =
    let state = taken id_front c.args.reader.now c.id.new.self c.in_ok-state.state c.in_ok-state.ensures in
    let none = untaken key_front c.id.new.self c.key.new.self c.in_err-key.ensures in
    makes-none (made (λ p. At p.0 p.1) (both id_front key_front)) c.args.reader.now c.key.new.self c.from_residual-in_err-key.result
    c.from_residual-in_err-key.ensures
    (made-none (λ p. At p.0 p.1) (both id_front key_front) c.args.reader.now
    (after-then_none id_front (λ _. key_front) c.args.reader.now c.in_ok-state.state c.id.new.self state none))

pub returns : goal.returns
returns c =
    let state = taken id_front c.args.reader.now c.id.new.self c.in_ok-state.state c.in_ok-state.ensures in
    let key = taken key_front c.id.new.self c.key.new.self c.in_ok-key.key.now c.in_ok-key.ensures in
    makes (made (λ p. At p.0 p.1) (both id_front key_front)) c.args.reader.now c.key.new.self c.at.result (At c.in_ok-state.state c.in_ok-key.key.now)
    (made-read (λ p. At p.0 p.1) (both id_front key_front) c.args.reader.now (c.in_ok-state.state, c.in_ok-key.key.now) c.key.new.self
    (after-then id_front (λ _. key_front) c.args.reader.now c.in_ok-state.state c.id.new.self c.in_ok-key.key.now c.key.new.self state key))
    c.at.ensures

use Rattle.plain_questions.specs.declared.questions.Question.TheVariants.{Base}
use Rattle.plain_questions.specs.Readings.{asked_front}
use Rattle.wire_item.specs.Fronts.{made, both}
use Rattle.wire_item.specs.Readings.{key_front}
use Rattle.wire_item.proofs.Fronts.{made-read}
use Rattle.wire_item.proofs.Takings.{taken, untaken, making, unmade, makes, makes-none, made-none, after-none, after-then_none, after-then}
use Rattle.wire_questions.proofs.question_field_readers.read_base.Goals as goal

pub returns-in_err-states : goal.returns-in_err-states
returns-in_err-states c =
    let none = unmade asked_front c.args.reader.now c.asked_states.new.reader c.in_err-states.ensures in
    makes-none (made (λ p. Base p.0 p.1) (both asked_front key_front)) c.args.reader.now c.asked_states.new.reader c.from_residual.result
    c.from_residual.ensures
    (made-none (λ p. Base p.0 p.1) (both asked_front key_front) c.args.reader.now (after-none asked_front (λ _. key_front) c.args.reader.now none))

pub returns-in_err-key : goal.returns-in_err-key
returns-in_err-key c =
    let states = making asked_front c.args.reader.now c.asked_states.new.reader c.in_ok-states.states c.in_ok-states.ensures in
    let none = untaken key_front c.asked_states.new.reader c.key.new.self c.in_err-key.ensures in
    makes-none (made (λ p. Base p.0 p.1) (both asked_front key_front)) c.args.reader.now c.key.new.self c.from_residual-in_err-key.result
    c.from_residual-in_err-key.ensures
    (made-none (λ p. Base p.0 p.1) (both asked_front key_front) c.args.reader.now
    (after-then_none asked_front (λ _. key_front) c.args.reader.now states.0 c.asked_states.new.reader states.1 none))

pub returns : goal.returns
returns c =
    let states = making asked_front c.args.reader.now c.asked_states.new.reader c.in_ok-states.states c.in_ok-states.ensures in
    let key = taken key_front c.asked_states.new.reader c.key.new.self c.in_ok-key.key.now c.in_ok-key.ensures in
    makes (made (λ p. Base p.0 p.1) (both asked_front key_front)) c.args.reader.now c.key.new.self c.base.result (Base states.0 c.in_ok-key.key.now)
    (made-read (λ p. Base p.0 p.1) (both asked_front key_front) c.args.reader.now (states.0, c.in_ok-key.key.now) c.key.new.self
    (after-then asked_front (λ _. key_front) c.args.reader.now states.0 c.asked_states.new.reader c.in_ok-key.key.now c.key.new.self states.1 key))
    (c.base.ensures states.0 states.2)

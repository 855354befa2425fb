use Rattle.wire_item.specs.Fronts.{both}
use Rattle.wire_item.specs.Readings.{id_front, u32_front}
use Rattle.wire_item.proofs.Takings.{taken, untaken, takes, takes-none, after-none, after-then_none, after-then}
use Rattle.talk_bytes.proofs.refusal_readers.id_and_u32.Goals as goal

pub returns-in_err-id : goal.returns-in_err-id
returns-in_err-id c =
    let none = untaken id_front c.args.reader.now c.id.new.self c.in_err-id.ensures in
    takes-none (both id_front u32_front) c.args.reader.now c.id.new.self c.from_residual.result c.from_residual.ensures
    (after-none id_front (λ _. u32_front) c.args.reader.now none)

pub returns-in_err-number : goal.returns-in_err-number
returns-in_err-number c =
    let first = taken id_front c.args.reader.now c.id.new.self c.in_ok-id.id c.in_ok-id.ensures in
    let none = untaken u32_front c.id.new.self c.u32.new.self c.in_err-number.ensures in
    takes-none (both id_front u32_front) c.args.reader.now c.u32.new.self c.from_residual-in_err-number.result c.from_residual-in_err-number.ensures
    (after-then_none id_front (λ _. u32_front) c.args.reader.now c.in_ok-id.id c.id.new.self first none)

pub returns : goal.returns
returns c =
    let first = taken id_front c.args.reader.now c.id.new.self c.in_ok-id.id c.in_ok-id.ensures in
    let second = taken u32_front c.id.new.self c.u32.new.self c.in_ok-number.number c.in_ok-number.ensures in
    takes (both id_front u32_front) c.args.reader.now c.u32.new.self (c.in_ok-id.id, c.in_ok-number.number)
    (after-then id_front (λ _. u32_front) c.args.reader.now c.in_ok-id.id c.id.new.self c.in_ok-number.number c.u32.new.self first second)

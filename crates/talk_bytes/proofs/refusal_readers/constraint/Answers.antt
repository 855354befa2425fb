use Rattle.std.proofs.Common.{refl, None, sym}
use Rattle.wire_item.specs.Fronts.{only_if}
use Rattle.wire_item.specs.Readings.{u8_front}
use Rattle.wire_item.proofs.Fronts.{only_if-read}
use Rattle.wire_item.proofs.Takings.{taken, untaken, takes, takes-none, only_if-none, only_if-fails}
use Rattle.wire_talk.specs.Valid.{is_constraint}
use Rattle.talk_bytes.proofs.refusal_readers.constraint.Goals as goal

pub returns-in_err-constraint : goal.returns-in_err-constraint
returns-in_err-constraint c =
    takes-none (only_if is_constraint u8_front) c.args.reader.now c.u8.new.self c.from_residual.result c.from_residual.ensures
    (only_if-none is_constraint u8_front c.args.reader.now (untaken u8_front c.args.reader.now c.u8.new.self c.in_err-constraint.ensures))

pub returns-then-is_constraint : goal.returns-then-is_constraint
returns-then-is_constraint c =
    let read = taken u8_front c.args.reader.now c.u8.new.self c.in_ok-constraint.constraint c.in_ok-constraint.ensures in
    takes (only_if is_constraint u8_front) c.args.reader.now c.u8.new.self c.in_ok-constraint.constraint
    (only_if-read is_constraint u8_front c.args.reader.now c.in_ok-constraint.constraint c.u8.new.self read (sym c.if-is_constraint.ensures))

pub returns-else-is_constraint : goal.returns-else-is_constraint
returns-else-is_constraint c =
    let read = taken u8_front c.args.reader.now c.u8.new.self c.in_ok-constraint.constraint c.in_ok-constraint.ensures in
    takes-none (only_if is_constraint u8_front) c.args.reader.now c.u8.new.self None refl
    (only_if-fails is_constraint u8_front c.args.reader.now c.in_ok-constraint.constraint c.u8.new.self read (sym c.if-is_constraint.ensures))

use Rattle.std.proofs.Common.{refl, None, sym, ap, nat_le}
use Rattle.std.specs.Option.{option_copied}
use Rattle.wire_item.specs.Readings.{u8_front}
use Rattle.wire_item.proofs.Takings.{taken, untaken, takes-none, bytes-fit, bytes-unfit}
use Rattle.wire_talk.specs.Valid.{is_after}
use Rattle.wire_talk.specs.RequestReadings.{after_front}
use Rattle.wire_talk.proofs.RequestFields.{after-tested}
use Rattle.wire_questions.proofs.question_field_readers.read_after.Goals as goal

pub returns-in_err-count : goal.returns-in_err-count
returns-in_err-count c =
    let none = untaken u8_front c.args.reader.now c.u8.new.self c.in_err-count.ensures in
    takes-none after_front c.args.reader.now _ (option_copied c.from_residual.result) (ap option_copied c.from_residual.ensures) (rw none refl)

pub returns-then-is_after_length : goal.returns-then-is_after_length
returns-then-is_after_length c =
    let count = taken u8_front c.args.reader.now c.u8.new.self c.in_ok-count.count c.in_ok-count.ensures in
    bytes-fit u8_front is_after (λ n. nat_le n 128) after-tested c.args.reader.now c.in_ok-count.count c.from.result c.u8.new.self (option_copied c.bytes.result)
    c.bytes.new.self count (sym c.if-is_after_length.ensures) c.from.ensures c.bytes.ensures

pub returns-else-is_after_length : goal.returns-else-is_after_length
returns-else-is_after_length c =
    let count = taken u8_front c.args.reader.now c.u8.new.self c.in_ok-count.count c.in_ok-count.ensures in
    takes-none after_front c.args.reader.now c.u8.new.self None refl
    (bytes-unfit u8_front is_after (λ n. nat_le n 128) after-tested c.args.reader.now c.in_ok-count.count c.u8.new.self count (sym c.if-is_after_length.ensures))

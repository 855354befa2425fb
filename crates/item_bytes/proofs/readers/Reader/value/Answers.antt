use Rattle.std.proofs.Common.{refl, None, sym, ap, nat_le}
use Rattle.std.specs.Option.{option_copied}
use Rattle.tardis_base.specs.Valid.{is_value}
use Rattle.wire_item.specs.Readings.{value_front, u16_front}
use Rattle.wire_item.proofs.Takings.{taken, untaken, takes-none, bytes-fit, bytes-unfit}
use Rattle.wire_item.proofs.Lists.{value-tested}
use Rattle.item_bytes.proofs.readers.Reader.value.Goals as goal

pub returns-in_err-count : goal.returns-in_err-count
returns-in_err-count c =
    let none = untaken u16_front c.args.self.now c.u16.new.self c.in_err-count.ensures in
    takes-none value_front c.args.self.now _ (option_copied c.from_residual.result) (ap option_copied c.from_residual.ensures) (rw none refl)

pub returns-then-is_value_length : goal.returns-then-is_value_length
returns-then-is_value_length c =
    let count = taken u16_front c.args.self.now c.u16.new.self c.in_ok-count.count c.in_ok-count.ensures in
    bytes-fit u16_front is_value (λ n. nat_le n 4096) value-tested c.args.self.now c.in_ok-count.count c.from.result c.u16.new.self (option_copied c.bytes.result)
    c.bytes.new.self count (sym c.if-is_value_length.ensures) c.from.ensures c.bytes.ensures

pub returns-else-is_value_length : goal.returns-else-is_value_length
returns-else-is_value_length c =
    let count = taken u16_front c.args.self.now c.u16.new.self c.in_ok-count.count c.in_ok-count.ensures in
    takes-none value_front c.args.self.now c.u16.new.self None refl
    (bytes-unfit u16_front is_value (λ n. nat_le n 4096) value-tested c.args.self.now c.in_ok-count.count c.u16.new.self count (sym c.if-is_value_length.ensures))

use Rattle.std.proofs.Common.{refl, None, sym, ap}
use Rattle.std.specs.Option.{option_copied}
use Rattle.tardis_base.specs.Valid.{is_within, is_key}
use Rattle.wire_item.specs.Readings.{key_front, u8_front}
use Rattle.wire_item.proofs.Takings.{taken, untaken, takes-none, bytes-fit, bytes-unfit}
use Rattle.wire_item.proofs.Lists.{key-tested}
use Rattle.item_bytes.proofs.readers.Reader.key.Goals as goal

pub returns-in_err-count : goal.returns-in_err-count
returns-in_err-count c =
    let none = untaken u8_front c.args.self.now c.u8.new.self c.in_err-count.ensures in
    takes-none key_front c.args.self.now _ (option_copied c.from_residual.result) (ap option_copied c.from_residual.ensures) (rw none refl)

pub returns-then-is_key_length : goal.returns-then-is_key_length
returns-then-is_key_length c =
    let count = taken u8_front c.args.self.now c.u8.new.self c.in_ok-count.count c.in_ok-count.ensures in
    bytes-fit u8_front is_key (is_within 1 128) key-tested c.args.self.now c.in_ok-count.count c.from.result c.u8.new.self (option_copied c.bytes.result)
    c.bytes.new.self count (sym c.if-is_key_length.ensures) c.from.ensures c.bytes.ensures

pub returns-else-is_key_length : goal.returns-else-is_key_length
returns-else-is_key_length c =
    let count = taken u8_front c.args.self.now c.u8.new.self c.in_ok-count.count c.in_ok-count.ensures in
    takes-none key_front c.args.self.now c.u8.new.self None refl
    (bytes-unfit u8_front is_key (is_within 1 128) key-tested c.args.self.now c.in_ok-count.count c.u8.new.self count (sym c.if-is_key_length.ensures))

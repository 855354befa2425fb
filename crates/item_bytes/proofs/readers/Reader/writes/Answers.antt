use Rattle.std.proofs.Common.{refl, None, sym, nat_le}
use Rattle.tardis_base.specs.Keys.{are_ascending_keys, keys_of}
use Rattle.tardis_base.specs.Valid.{are_writes}
use Rattle.wire_item.specs.Fronts.{both}
use Rattle.wire_item.specs.Readings.{u8_front, writes_front, key_front, write_front}
use Rattle.wire_item.proofs.Takings.{taken, untaken, makes-none, counted-fit, counted-unfit}
use Rattle.wire_item.proofs.Orders.{writes-tested}
use Rattle.item_bytes.proofs.readers.Reader.writes.Goals as goal

pub returns-in_err-count : goal.returns-in_err-count
returns-in_err-count c =
    let none = untaken u8_front c.args.self.now c.u8.new.self c.in_err-count.ensures in
    makes-none writes_front c.args.self.now c.u8.new.self c.from_residual.result c.from_residual.ensures (rw none refl)

pub returns-then-is_write_count : goal.returns-then-is_write_count
returns-then-is_write_count c =
    let count = taken u8_front c.args.self.now c.u8.new.self c.in_ok-count.count c.in_ok-count.ensures in
    counted-fit u8_front (both key_front write_front) are_writes (λ ws. are_ascending_keys (keys_of ws)) (λ n. nat_le n 64) writes-tested
    c.args.self.now c.in_ok-count.count c.u8.new.self c.ascending_writes.result c.ascending_writes.new.self count (sym c.if-is_write_count.ensures) c.ascending_writes.ensures

pub returns-else-is_write_count : goal.returns-else-is_write_count
returns-else-is_write_count c =
    let count = taken u8_front c.args.self.now c.u8.new.self c.in_ok-count.count c.in_ok-count.ensures in
    makes-none writes_front c.args.self.now c.u8.new.self None refl
    (counted-unfit u8_front (both key_front write_front) are_writes (λ ws. are_ascending_keys (keys_of ws)) (λ n. nat_le n 64) writes-tested
    c.args.self.now c.in_ok-count.count c.u8.new.self count (sym c.if-is_write_count.ensures))

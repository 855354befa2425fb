use Rattle.std.proofs.Common.{refl, None, sym}
use Rattle.tardis_base.specs.Ids.{are_ascending}
use Rattle.tardis_base.specs.Valid.{is_within, are_parents}
use Rattle.wire_item.specs.Readings.{u8_front, parents_front, id_front}
use Rattle.wire_item.proofs.Takings.{taken, untaken, makes-none, counted-fit, counted-unfit}
use Rattle.wire_item.proofs.Orders.{parents-tested}
use Rattle.item_bytes.proofs.readers.Reader.parents.Goals as goal

pub returns-in_err-count : goal.returns-in_err-count
returns-in_err-count c =
    let none = untaken u8_front c.args.self.now c.u8.new.self c.in_err-count.ensures in
    makes-none parents_front c.args.self.now c.u8.new.self c.from_residual.result c.from_residual.ensures (rw none refl)

pub returns-then-is_parent_count : goal.returns-then-is_parent_count
returns-then-is_parent_count c =
    let count = taken u8_front c.args.self.now c.u8.new.self c.in_ok-count.count c.in_ok-count.ensures in
    counted-fit u8_front id_front are_parents are_ascending (is_within 1 8) parents-tested
    c.args.self.now c.in_ok-count.count c.u8.new.self c.ascending_ids.result c.ascending_ids.new.self count (sym c.if-is_parent_count.ensures) c.ascending_ids.ensures

pub returns-else-is_parent_count : goal.returns-else-is_parent_count
returns-else-is_parent_count c =
    let count = taken u8_front c.args.self.now c.u8.new.self c.in_ok-count.count c.in_ok-count.ensures in
    makes-none parents_front c.args.self.now c.u8.new.self None refl
    (counted-unfit u8_front id_front are_parents are_ascending (is_within 1 8) parents-tested
    c.args.self.now c.in_ok-count.count c.u8.new.self count (sym c.if-is_parent_count.ensures))

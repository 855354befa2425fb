use Rattle.std.proofs.Common.{sym}
use Rattle.wire_item.specs.Readings.{u8_front}
use Rattle.wire_item.proofs.Takings.{taken, untaken}
use Rattle.rest_site.proofs.FloorsRead.{floors-made, floors-unfit, none-counted-before, are-read-none}
use Rattle.rest_site.proofs.floors.read_floors.Goals as goal

pub returns-in_err-count : goal.returns-in_err-count
returns-in_err-count c =
    are-read-none c.args.reader.now c.u8.new.self c.from_residual.result c.from_residual.ensures
    (none-counted-before c.args.reader.now (untaken u8_front c.args.reader.now c.u8.new.self c.in_err-count.ensures))

pub returns-then-is_floor_count : goal.returns-then-is_floor_count
returns-then-is_floor_count c =
    let number = taken u8_front c.args.reader.now c.u8.new.self c.in_ok-count.count c.in_ok-count.ensures in
    floors-made c.args.reader.now c.in_ok-count.count c.u8.new.self number c.counted_floors.result c.counted_floors.new.reader (sym c.if-is_floor_count.ensures)
    c.counted_floors.ensures

pub returns-else-is_floor_count : goal.returns-else-is_floor_count
returns-else-is_floor_count c =
    let number = taken u8_front c.args.reader.now c.u8.new.self c.in_ok-count.count c.in_ok-count.ensures in
    floors-unfit c.args.reader.now c.in_ok-count.count c.u8.new.self number (sym c.if-is_floor_count.ensures)

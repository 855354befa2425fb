use Rattle.std.proofs.Common.{refl}
use Rattle.wire_item.specs.Readings.{u32_front, id_front}
use Rattle.wire_item.proofs.Takings.{taken, untaken, takes, takes-none}
use Rattle.wire_talk.specs.ReplyReadings.{site_line_front}
use Rattle.talk_bytes.proofs.list_readers.site_line.Goals as goal

pub returns-in_err-count : goal.returns-in_err-count
returns-in_err-count c =
    let none = untaken u32_front c.args.reader.now c.u32.new.self c.in_err-count.ensures in
    takes-none site_line_front c.args.reader.now c.u32.new.self c.from_residual.result c.from_residual.ensures (rw (none) refl)

pub returns-in_err-floor : goal.returns-in_err-floor
returns-in_err-floor c =
    let count = taken u32_front c.args.reader.now c.u32.new.self c.in_ok-count.count c.in_ok-count.ensures in
    let none = untaken id_front c.u32.new.self c.id.new.self c.in_err-floor.ensures in
    takes-none site_line_front c.args.reader.now c.id.new.self c.from_residual-in_err-floor.result c.from_residual-in_err-floor.ensures (rw (count, none) refl)

pub returns-in_err-number : goal.returns-in_err-number
returns-in_err-number c =
    let count = taken u32_front c.args.reader.now c.u32.new.self c.in_ok-count.count c.in_ok-count.ensures in
    let floor = taken id_front c.u32.new.self c.id.new.self c.in_ok-floor.floor c.in_ok-floor.ensures in
    let none = untaken u32_front c.id.new.self c.u32-2.new.self c.in_err-number.ensures in
    takes-none site_line_front c.args.reader.now c.u32-2.new.self c.from_residual-in_err-number.result c.from_residual-in_err-number.ensures
    (rw (count, floor, none) refl)

pub returns : goal.returns
returns c =
    let count = taken u32_front c.args.reader.now c.u32.new.self c.in_ok-count.count c.in_ok-count.ensures in
    let floor = taken id_front c.u32.new.self c.id.new.self c.in_ok-floor.floor c.in_ok-floor.ensures in
    let number = taken u32_front c.id.new.self c.u32-2.new.self c.in_ok-number.number c.in_ok-number.ensures in
    takes site_line_front c.args.reader.now c.u32-2.new.self
    (record { count = c.in_ok-count.count; floor = c.in_ok-floor.floor; number = c.in_ok-number.number }) (rw (count, floor, number) refl)

use Rattle.std.proofs.Common.{None, refl}
use Rattle.wire_item.specs.Readings.{u16_front, record_front, records_front}
use Rattle.wire_item.proofs.Takings.{taken, untaken, makes-none, makes-after}
use Rattle.shell_text.specs.Passing.{read_if}
use Rattle.shell_text.proofs.passing.pass_records.Goals as goal

pub returns-in-None : goal.returns-in-None
returns-in-None c =
    let none = untaken u16_front c.args.reader.now c.u16.new.self c.in-None.ensures in
    makes-none records_front c.args.reader.now c.u16.new.self None refl (rw none refl)

pub returns : goal.returns
returns c =
    let count = taken u16_front c.args.reader.now c.u16.new.self c.in-Some.count c.in-Some.ensures in
    makes-after u16_front record_front c.args.reader.now c.in-Some.count c.u16.new.self (read_if c.pass_counted_records.result)
    c.pass_counted_records.new.reader count c.pass_counted_records.ensures

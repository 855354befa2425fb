use Rattle.std.proofs.Common.{refl}
use Rattle.wire_item.specs.Readings.{u16_front, record_front, records_front}
use Rattle.wire_item.proofs.Takings.{taken, untaken, makes-none, makes-after}
use Rattle.item_bytes.proofs.readers.Reader.records.Goals as goal

pub returns-in_err-count : goal.returns-in_err-count
returns-in_err-count c =
    let none = untaken u16_front c.args.self.now c.u16.new.self c.in_err-count.ensures in
    makes-none records_front c.args.self.now c.u16.new.self c.from_residual.result c.from_residual.ensures (rw none refl)

pub returns : goal.returns
returns c =
    let count = taken u16_front c.args.self.now c.u16.new.self c.in_ok-count.count c.in_ok-count.ensures in
    makes-after u16_front record_front c.args.self.now c.in_ok-count.count c.u16.new.self c.counted_records.result c.counted_records.new.self count
    c.counted_records.ensures

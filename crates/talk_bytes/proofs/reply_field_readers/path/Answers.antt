use Rattle.std.proofs.Common.{refl}
use Rattle.wire_item.specs.Fronts.{both}
use Rattle.wire_item.specs.Readings.{u32_front, id_front}
use Rattle.wire_item.proofs.Takings.{taken, untaken, makes-none, makes-after}
use Rattle.wire_talk.specs.ReplyReadings.{path_front}
use Rattle.talk_bytes.proofs.reply_field_readers.path.Goals as goal

pub returns-in_err-count : goal.returns-in_err-count
returns-in_err-count c =
    let none = untaken u32_front c.args.reader.now c.u32.new.self c.in_err-count.ensures in
    makes-none path_front c.args.reader.now c.u32.new.self c.from_residual.result c.from_residual.ensures (rw (none) refl)

pub returns : goal.returns
returns c =
    let count = taken u32_front c.args.reader.now c.u32.new.self c.in_ok-count.count c.in_ok-count.ensures in
    makes-after u32_front (both id_front u32_front) c.args.reader.now c.in_ok-count.count c.u32.new.self c.pairs.result c.pairs.new.reader count c.pairs.ensures

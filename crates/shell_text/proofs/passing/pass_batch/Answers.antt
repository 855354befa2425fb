use Rattle.std.proofs.Common.{None, refl}
use Rattle.wire_item.specs.Readings.{records_front, batch_front}
use Rattle.wire_item.proofs.Takings.{making, unmade, makes-none}
use Rattle.shell_text.proofs.Passings.{lacking, batch-passed}
use Rattle.shell_text.proofs.passing.pass_batch.Goals as goal

pub returns-then-not-pass_records : goal.returns-then-not-pass_records
returns-then-not-pass_records c =
    let none = unmade records_front c.args.reader.now c.pass_records.new.reader c.if-not-pass_records.ensures in
    makes-none batch_front c.args.reader.now c.pass_records.new.reader None refl (rw none refl)

pub returns : goal.returns
returns c =
    let records = making records_front c.args.reader.now c.pass_records.new.reader lacking c.if-not-pass_records.ensures in
    batch-passed c.args.reader.now c.pass_records.new.reader c.pass_consents.new.reader records.0 c.pass_consents.result records.1 c.pass_consents.ensures

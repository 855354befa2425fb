use Rattle.std.proofs.Common.{subst}
use Rattle.wire_item.specs.Readings.{record_front}
use Rattle.wire_item.specs.Takings.{Makes}
use Rattle.wire_item.proofs.Things.{reads-record}
use Rattle.wire_item.proofs.Wholes.{answers}
use Rattle.item_bytes.proofs.whole_readers.read_record.Goals as goal

pub returns-clause-spelled : goal.returns-clause-spelled
returns-clause-spelled c =
    let made = subst (λ b. Makes record_front b c.record-taken.result c.record-taken.new.self) c.new-reader.ensures c.record-taken.ensures in
    (answers reads-record c.args.bytes.now c.record-taken.result c.record-taken.new.self c.is_done.result made c.is_done.ensures c.whole.result
    c.whole.ensures).spelled

pub returns-clause-malformed : goal.returns-clause-malformed
returns-clause-malformed c =
    let made = subst (λ b. Makes record_front b c.record-taken.result c.record-taken.new.self) c.new-reader.ensures c.record-taken.ensures in
    (answers reads-record c.args.bytes.now c.record-taken.result c.record-taken.new.self c.is_done.result made c.is_done.ensures c.whole.result
    c.whole.ensures).malformed

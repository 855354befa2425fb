use Rattle.std.proofs.Common.{subst}
use Rattle.wire_item.specs.Readings.{batch_front}
use Rattle.wire_item.specs.Takings.{Makes}
use Rattle.wire_item.proofs.Things.{reads-batch}
use Rattle.wire_item.proofs.Wholes.{answers}
use Rattle.item_bytes.proofs.whole_readers.read_batch.Goals as goal

pub returns-clause-spelled : goal.returns-clause-spelled
returns-clause-spelled c =
    let made = subst (λ b. Makes batch_front b c.batch-taken.result c.batch-taken.new.self) c.new-reader.ensures c.batch-taken.ensures in
    (answers reads-batch c.args.bytes.now c.batch-taken.result c.batch-taken.new.self c.is_done.result made c.is_done.ensures c.whole.result
    c.whole.ensures).spelled

pub returns-clause-malformed : goal.returns-clause-malformed
returns-clause-malformed c =
    let made = subst (λ b. Makes batch_front b c.batch-taken.result c.batch-taken.new.self) c.new-reader.ensures c.batch-taken.ensures in
    (answers reads-batch c.args.bytes.now c.batch-taken.result c.batch-taken.new.self c.is_done.result made c.is_done.ensures c.whole.result
    c.whole.ensures).malformed

use Rattle.tardis_base.specs.declared.replies.Reply.TheVariants.{Batch}
use Rattle.wire_item.specs.Fronts.{made}
use Rattle.wire_item.specs.Readings.{batch_front}
use Rattle.wire_item.proofs.Fronts.{made-read}
use Rattle.wire_item.proofs.Takings.{making, unmade, makes, makes-none, made-none}
use Rattle.talk_bytes.proofs.reply_field_readers.read_batch.Goals as goal

pub returns-in_err-batch : goal.returns-in_err-batch
returns-in_err-batch c =
    let none = unmade batch_front c.args.reader.now c.batch.new.self c.in_err-batch.ensures in
    makes-none (made Batch batch_front) c.args.reader.now c.batch.new.self c.from_residual.result c.from_residual.ensures
    (made-none Batch batch_front c.args.reader.now none)

pub returns : goal.returns
returns c =
    let read = making batch_front c.args.reader.now c.batch.new.self c.in_ok-batch.batch c.in_ok-batch.ensures in
    makes (made Batch batch_front) c.args.reader.now c.batch.new.self c.batch_of.result (Batch read.0)
    (made-read Batch batch_front c.args.reader.now read.0 c.batch.new.self read.1) (c.batch_of.ensures read.0 read.2)

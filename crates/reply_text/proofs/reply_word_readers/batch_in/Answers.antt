use Rattle.std.proofs.Common.{ap, length, take}
use Rattle.std.specs.Prelude.{option_map, option_and_then}
use Rattle.tardis_base.specs.declared.replies.Reply.TheVariants.{Batch}
use Rattle.wire_item.specs.Readings.{batch_of}
use Rattle.shell_text.proofs.LineReads.{no-digits}
use Rattle.reply_text.proofs.ReplyReads.{batch-fault, batch-read}
use Rattle.reply_text.proofs.reply_word_readers.batch_in.Goals as goal

pub returns-in-Ok-clause-read : goal.returns-in-Ok-clause-read
returns-in-Ok-clause-read c =
    let bytes = take c.in-Some.count c.read_hex.new.room in
    batch-read c.args.word.now bytes c.in-Ok.batch c.in-Some.ensures.bytes.1
    ((c.things_have_one_spelling.ensures.batch.some bytes c.in-Ok.batch).1 c.in-Ok.ensures.spelled)

pub returns-in-Err-clause-malformed : goal.returns-in-Err-clause-malformed
returns-in-Err-clause-malformed c =
    batch-fault c.args.word.now (take c.in-Some.count c.read_hex.new.room) c.in-Err.fault c.in-Some.ensures.bytes.1 c.in-Err.ensures.malformed

pub returns-in-None-clause-malformed : goal.returns-in-None-clause-malformed
returns-in-None-clause-malformed c = λ _.
    ap (λ o. option_map Batch (option_and_then batch_of o)) (no-digits c.args.word.now (length c.args.room.now) c.requires c.in-None.ensures.bytes)

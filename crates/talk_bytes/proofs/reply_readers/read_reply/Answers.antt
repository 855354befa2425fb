use Rattle.std.proofs.Common.{subst}
use Rattle.wire_item.specs.Takings.{Makes}
use Rattle.wire_item.proofs.Wholes.{answers}
use Rattle.wire_talk.specs.ReplyReadings.{reply_front}
use Rattle.wire_talk.proofs.Replies.{reads-reply}
use Rattle.talk_bytes.proofs.reply_readers.read_reply.Goals as goal

pub returns-clause-spelled : goal.returns-clause-spelled
returns-clause-spelled c =
    let made = subst (λ b. Makes reply_front b c.reply-taken.result c.reply-taken.new.reader) c.new-reader.ensures c.reply-taken.ensures.read in
    (answers reads-reply c.args.bytes.now c.reply-taken.result c.reply-taken.new.reader c.is_done.result made c.is_done.ensures c.whole.result
    c.whole.ensures).spelled

pub returns-clause-malformed : goal.returns-clause-malformed
returns-clause-malformed c =
    let made = subst (λ b. Makes reply_front b c.reply-taken.result c.reply-taken.new.reader) c.new-reader.ensures c.reply-taken.ensures.read in
    (answers reads-reply c.args.bytes.now c.reply-taken.result c.reply-taken.new.reader c.is_done.result made c.is_done.ensures c.whole.result
    c.whole.ensures).malformed

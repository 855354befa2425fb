use Rattle.std.proofs.Common.{◌∙◌, subst}
use Rattle.tardis_base.specs.declared.replies.Reply.TheVariants.{Batch}
use Rattle.text_words.specs.Texts.{parsed}
use Rattle.wire_item.specs.Fronts.{made, whole}
use Rattle.reply_text.specs.Answers.{IsReply}
use Rattle.shell_text.specs.ReplyTexts.{batch_from, line_reply_of, reply_text}
use Rattle.reply_text.proofs.ReplyReads.{batch-read-of, batch-sure, found-same, no-other-line, reply-found, reply-malformed, reply-none, reply-sure}
use Rattle.reply_text.proofs.reply_line_readers.read_reply_line.Goals as goal

pub returns-in-Some-clause-read : goal.returns-in-Some-clause-read
returns-in-Some-clause-read c =
    let line = c.args.line.now in
    found-same (line_reply_of line) (whole (made Batch (parsed batch_from 32)) c.in-Some.left) c.read_batch_word.result
    (batch-read-of line c.new-words.result c.in-Some.left c.new-words.ensures c.in-Some.ensures) c.read_batch_word.ensures.read

pub returns-in-Some-clause-malformed : goal.returns-in-Some-clause-malformed
returns-in-Some-clause-malformed c = λ same.
    batch-read-of c.args.line.now c.new-words.result c.in-Some.left c.new-words.ensures c.in-Some.ensures ∙ c.read_batch_word.ensures.malformed same

pub returns-in-Some-clause-none : goal.returns-in-Some-clause-none
returns-in-Some-clause-none c = λ _ other.
    absurd (no-other-line c.args.line.now c.new-words.result c.in-Some.left c.new-words.ensures c.in-Some.ensures other)

pub returns-in-Some-clause-sure : goal.returns-in-Some-clause-sure
returns-in-Some-clause-sure c = λ reply is free _.
    batch-sure c.args.line.now c.in-Some.left reply (batch-read-of c.args.line.now c.new-words.result c.in-Some.left c.new-words.ensures c.in-Some.ensures)
    is free

pub returns-in-None-clause-read : goal.returns-in-None-clause-read
returns-in-None-clause-read c =
    reply-found (line_reply_of c.args.line.now) c.read_reply.result
    (subst (λ z. IsReply (whole reply_text z) c.read_reply.result) c.new-words.ensures c.read_reply.ensures)

pub returns-in-None-clause-malformed : goal.returns-in-None-clause-malformed
returns-in-None-clause-malformed c =
    reply-malformed (line_reply_of c.args.line.now) c.read_reply.result
    (subst (λ z. IsReply (whole reply_text z) c.read_reply.result) c.new-words.ensures c.read_reply.ensures)

pub returns-in-None-clause-none : goal.returns-in-None-clause-none
returns-in-None-clause-none c = λ is _.
    reply-none (line_reply_of c.args.line.now) c.read_reply.result
    (subst (λ z. IsReply (whole reply_text z) c.read_reply.result) c.new-words.ensures c.read_reply.ensures) is

pub returns-in-None-clause-sure : goal.returns-in-None-clause-sure
returns-in-None-clause-sure c =
    reply-sure (line_reply_of c.args.line.now) c.read_reply.result
    (subst (λ z. IsReply (whole reply_text z) c.read_reply.result) c.new-words.ensures c.read_reply.ensures)

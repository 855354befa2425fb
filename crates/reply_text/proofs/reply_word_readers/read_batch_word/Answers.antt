use Rattle.std.proofs.Common.{sym, ◌∙◌}
use Rattle.std.specs.Prelude.{option_map}
use Rattle.tardis_base.specs.declared.replies.Reply.TheVariants.{Batch}
use Rattle.wire_item.specs.Fronts.{made, whole}
use Rattle.text_words.specs.Texts.{parsed}
use Rattle.shell_text.specs.ReplyTexts.{batch_from}
use Rattle.reply_text.proofs.ReplyReads.{batch-word, found-same}
use Rattle.reply_text.proofs.reply_word_readers.read_batch_word.Goals as goal

pub returns-then-is_over-clause-read : goal.returns-then-is_over-clause-read
returns-then-is_over-clause-read c =
    found-same (whole (made Batch (parsed batch_from 32)) c.args.words.now) (option_map Batch (batch_from c.in-Some.word.now)) c.batch.result
    (batch-word c.args.words.now c.in-Some.word.now c.in-Some.left c.in-Some.ensures (sym c.is_over.ensures ∙ c.if-is_over.true)) c.batch.ensures.read

pub returns-then-is_over-clause-malformed : goal.returns-then-is_over-clause-malformed
returns-then-is_over-clause-malformed c = λ same.
    batch-word c.args.words.now c.in-Some.word.now c.in-Some.left c.in-Some.ensures (sym c.is_over.ensures ∙ c.if-is_over.true) ∙ c.batch.ensures.malformed same

use Rattle.std.proofs.Common.{None, codes, drop, sym}
use Rattle.tardis_base.specs.declared.replies.Reply.TheVariants.{Stat as Statistics, Shown, Batch}
use Rattle.wire_item.specs.Fronts.{made, whole}
use Rattle.wire_talk.specs.Memory.{reply_takes_no_memory}
use Rattle.shell_text.specs.ReplyTexts.{batch_from, reply_text_rows, shown_text, statistics_text}
use Rattle.text_words.specs.Texts.{parsed}
use Rattle.shell_text.proofs.NamedReads.{answer-first, answer-later, answer-same, none-other}
use Rattle.reply_text.proofs.reply_line_readers.read_shown_reply.Goals as goal

pub returns-in-Some : goal.returns-in-Some
returns-in-Some c =
    answer-first reply_takes_no_memory (codes "stat known ") (made (λ p. Statistics p.0 p.1.0 p.1.1.0 p.1.1.1.0 p.1.1.1.1) statistics_text) (drop 14
    reply_text_rows) c.args.words.now c.in-Some.left c.sure_reply.result c.in-Some.ensures (answer-same reply_takes_no_memory c.read_statistics.result (whole
    (made (λ p. Statistics p.0 p.1.0 p.1.1.0 p.1.1.1.0 p.1.1.1.1) statistics_text) c.in-Some.left) c.sure_reply.result c.read_statistics.ensures
    c.sure_reply.ensures)

pub returns-in-Some-behind : goal.returns-in-Some-behind
returns-in-Some-behind c =
    answer-later reply_takes_no_memory (codes "stat known ") (made (λ p. Statistics p.0 p.1.0 p.1.1.0 p.1.1.1.0 p.1.1.1.1) statistics_text) (drop 14
    reply_text_rows) c.args.words.now c.behind.result c.read_shown.result c.behind.ensures c.in_default.not-Some
    (answer-first reply_takes_no_memory (codes "shown ") (made (λ p. Shown p.0 p.1.0 p.1.1) shown_text) (drop 15 reply_text_rows) c.args.words.now
    c.in-Some-behind.left c.read_shown.result c.in-Some-behind.ensures (c.read_shown.ensures))

pub returns : goal.returns
returns c =
    answer-later reply_takes_no_memory (codes "stat known ") (made (λ p. Statistics p.0 p.1.0 p.1.1.0 p.1.1.1.0 p.1.1.1.1) statistics_text) (drop 14
    reply_text_rows) c.args.words.now c.behind.result c.read_other_reply.result c.behind.ensures c.in_default.not-Some
    (answer-later reply_takes_no_memory (codes "shown ") (made (λ p. Shown p.0 p.1.0 p.1.1) shown_text) (drop 15 reply_text_rows) c.args.words.now
    c.behind-2.result c.read_other_reply.result c.behind-2.ensures c.in_default-behind.not-Some
    (answer-later reply_takes_no_memory (codes "batch ") (made Batch (parsed batch_from 32)) (drop 16 reply_text_rows) c.args.words.now None
    c.read_other_reply.result (sym c.requires) none-other
    (c.read_other_reply.ensures)))

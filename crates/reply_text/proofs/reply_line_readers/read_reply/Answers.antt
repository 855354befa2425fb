use Rattle.std.proofs.Common.{codes, drop}
use Rattle.tardis_base.specs.declared.replies.Reply.TheVariants.{Opened, Begun, Merging, Value}
use Rattle.wire_item.specs.Fronts.{both, made, whole}
use Rattle.wire_talk.specs.Memory.{reply_takes_no_memory}
use Rattle.shell_text.specs.ReplyTexts.{id_text, parents_text, reply_text_rows}
use Rattle.shell_text.specs.RequestTexts.{value_text}
use Rattle.shell_text.proofs.NamedReads.{answer-first, answer-later, answer-same}
use Rattle.reply_text.proofs.reply_line_readers.read_reply.Goals as goal

pub returns-in-Some : goal.returns-in-Some
returns-in-Some c =
    answer-first reply_takes_no_memory (codes "opened ") (made Opened id_text) (drop 1 reply_text_rows) c.args.words.now c.in-Some.left c.sure_reply.result
    c.in-Some.ensures (answer-same reply_takes_no_memory c.read_opened.result (whole (made Opened id_text) c.in-Some.left) c.sure_reply.result
    c.read_opened.ensures c.sure_reply.ensures)

pub returns-in-Some-behind : goal.returns-in-Some-behind
returns-in-Some-behind c =
    answer-later reply_takes_no_memory (codes "opened ") (made Opened id_text) (drop 1 reply_text_rows) c.args.words.now c.behind.result
    c.sure_reply-in-Some-behind.result c.behind.ensures c.in_default.not-Some
    (answer-first reply_takes_no_memory (codes "begun ") (made Begun id_text) (drop 2 reply_text_rows) c.args.words.now c.in-Some-behind.left
    c.sure_reply-in-Some-behind.result c.in-Some-behind.ensures (answer-same reply_takes_no_memory c.read_begun.result (whole (made Begun id_text)
    c.in-Some-behind.left) c.sure_reply-in-Some-behind.result c.read_begun.ensures c.sure_reply-in-Some-behind.ensures))

pub returns-in-Some-behind-2 : goal.returns-in-Some-behind-2
returns-in-Some-behind-2 c =
    answer-later reply_takes_no_memory (codes "opened ") (made Opened id_text) (drop 1 reply_text_rows) c.args.words.now c.behind.result c.read_merging.result
    c.behind.ensures c.in_default.not-Some
    (answer-later reply_takes_no_memory (codes "begun ") (made Begun id_text) (drop 2 reply_text_rows) c.args.words.now c.behind-2.result
    c.read_merging.result c.behind-2.ensures c.in_default-behind.not-Some
    (answer-first reply_takes_no_memory (codes "merging ") (made Merging parents_text) (drop 3 reply_text_rows) c.args.words.now c.in-Some-behind-2.left
    c.read_merging.result c.in-Some-behind-2.ensures (c.read_merging.ensures)))

pub returns-in-Some-behind-3 : goal.returns-in-Some-behind-3
returns-in-Some-behind-3 c =
    answer-later reply_takes_no_memory (codes "opened ") (made Opened id_text) (drop 1 reply_text_rows) c.args.words.now c.behind.result c.read_value.result
    c.behind.ensures c.in_default.not-Some
    (answer-later reply_takes_no_memory (codes "begun ") (made Begun id_text) (drop 2 reply_text_rows) c.args.words.now c.behind-2.result c.read_value.result
    c.behind-2.ensures c.in_default-behind.not-Some
    (answer-later reply_takes_no_memory (codes "merging ") (made Merging parents_text) (drop 3 reply_text_rows) c.args.words.now c.behind-3.result
    c.read_value.result c.behind-3.ensures c.in_default-behind-2.not-Some
    (answer-first reply_takes_no_memory (codes "value ") (made (λ p. Value p.0 p.1) (both id_text value_text)) (drop 4 reply_text_rows) c.args.words.now
    c.in-Some-behind-3.left c.read_value.result c.in-Some-behind-3.ensures (c.read_value.ensures))))

pub returns : goal.returns
returns c =
    answer-later reply_takes_no_memory (codes "opened ") (made Opened id_text) (drop 1 reply_text_rows) c.args.words.now c.behind.result
    c.read_done_reply.result c.behind.ensures c.in_default.not-Some
    (answer-later reply_takes_no_memory (codes "begun ") (made Begun id_text) (drop 2 reply_text_rows) c.args.words.now c.behind-2.result
    c.read_done_reply.result c.behind-2.ensures c.in_default-behind.not-Some
    (answer-later reply_takes_no_memory (codes "merging ") (made Merging parents_text) (drop 3 reply_text_rows) c.args.words.now c.behind-3.result
    c.read_done_reply.result c.behind-3.ensures c.in_default-behind-2.not-Some
    (answer-later reply_takes_no_memory (codes "value ") (made (λ p. Value p.0 p.1) (both id_text value_text)) (drop 4 reply_text_rows) c.args.words.now
    c.behind-4.result c.read_done_reply.result c.behind-4.ensures c.in_default-behind-3.not-Some
    (c.read_done_reply.ensures))))

use Rattle.std.proofs.Common.{codes, drop}
use Rattle.tardis_base.specs.declared.replies.Reply.TheVariants.{Deleted, Absent, Done, Committed, Ended}
use Rattle.wire_item.specs.Fronts.{both, made, nothing_but, whole}
use Rattle.wire_talk.specs.Memory.{reply_takes_no_memory}
use Rattle.shell_text.specs.ReplyTexts.{from_rows, id_text, reply_text_rows}
use Rattle.text_words.specs.Texts.{by_prefix}
use Rattle.shell_text.proofs.NamedReads.{answer-first, answer-later, answer-same}
use Rattle.reply_text.proofs.reply_line_readers.read_done_reply.Goals as goal

pub returns-in-Some : goal.returns-in-Some
returns-in-Some c =
    answer-first reply_takes_no_memory (codes "deleted ") (made Deleted id_text) (drop 5 reply_text_rows) c.args.words.now c.in-Some.left c.sure_reply.result
    c.in-Some.ensures (answer-same reply_takes_no_memory c.read_deleted.result (whole (made Deleted id_text) c.in-Some.left) c.sure_reply.result
    c.read_deleted.ensures c.sure_reply.ensures)

pub returns-in-Some-behind : goal.returns-in-Some-behind
returns-in-Some-behind c =
    answer-later reply_takes_no_memory (codes "deleted ") (made Deleted id_text) (drop 5 reply_text_rows) c.args.words.now c.behind.result
    c.sure_reply-in-Some-behind.result c.behind.ensures c.in_default.not-Some
    (answer-first reply_takes_no_memory (codes "absent ") (nothing_but Absent) (drop 6 reply_text_rows) c.args.words.now c.in-Some-behind.left
    c.sure_reply-in-Some-behind.result c.in-Some-behind.ensures (answer-same reply_takes_no_memory c.alone.result (whole (nothing_but Absent)
    c.in-Some-behind.left) c.sure_reply-in-Some-behind.result c.alone.ensures c.sure_reply-in-Some-behind.ensures))

pub returns-in-Some-behind-2 : goal.returns-in-Some-behind-2
returns-in-Some-behind-2 c =
    answer-later reply_takes_no_memory (codes "deleted ") (made Deleted id_text) (drop 5 reply_text_rows) c.args.words.now c.behind.result
    c.sure_reply-in-Some-behind-2.result c.behind.ensures c.in_default.not-Some
    (answer-later reply_takes_no_memory (codes "absent ") (nothing_but Absent) (drop 6 reply_text_rows) c.args.words.now c.behind-2.result
    c.sure_reply-in-Some-behind-2.result c.behind-2.ensures c.in_default-behind.not-Some
    (answer-first reply_takes_no_memory (codes "done ") (nothing_but Done) (drop 7 reply_text_rows) c.args.words.now c.in-Some-behind-2.left
    c.sure_reply-in-Some-behind-2.result c.in-Some-behind-2.ensures (answer-same reply_takes_no_memory c.alone-in-Some-behind-2.result (whole (nothing_but
    Done) c.in-Some-behind-2.left) c.sure_reply-in-Some-behind-2.result c.alone-in-Some-behind-2.ensures c.sure_reply-in-Some-behind-2.ensures)))

pub returns-in-Some-behind-3 : goal.returns-in-Some-behind-3
returns-in-Some-behind-3 c =
    answer-later reply_takes_no_memory (codes "deleted ") (made Deleted id_text) (drop 5 reply_text_rows) c.args.words.now c.behind.result
    c.read_committed.result c.behind.ensures c.in_default.not-Some
    (answer-later reply_takes_no_memory (codes "absent ") (nothing_but Absent) (drop 6 reply_text_rows) c.args.words.now c.behind-2.result
    c.read_committed.result c.behind-2.ensures c.in_default-behind.not-Some
    (answer-later reply_takes_no_memory (codes "done ") (nothing_but Done) (drop 7 reply_text_rows) c.args.words.now c.behind-3.result c.read_committed.result
    c.behind-3.ensures c.in_default-behind-2.not-Some
    (answer-first reply_takes_no_memory (codes "committed ") (made (λ p. Committed p.0 p.1) (both id_text (by_prefix from_rows))) (drop 8 reply_text_rows)
    c.args.words.now c.in-Some-behind-3.left c.read_committed.result c.in-Some-behind-3.ensures (c.read_committed.ensures))))

pub returns-in-Some-behind-4 : goal.returns-in-Some-behind-4
returns-in-Some-behind-4 c =
    answer-later reply_takes_no_memory (codes "deleted ") (made Deleted id_text) (drop 5 reply_text_rows) c.args.words.now c.behind.result
    c.sure_reply-in-Some-behind-4.result c.behind.ensures c.in_default.not-Some
    (answer-later reply_takes_no_memory (codes "absent ") (nothing_but Absent) (drop 6 reply_text_rows) c.args.words.now c.behind-2.result
    c.sure_reply-in-Some-behind-4.result c.behind-2.ensures c.in_default-behind.not-Some
    (answer-later reply_takes_no_memory (codes "done ") (nothing_but Done) (drop 7 reply_text_rows) c.args.words.now c.behind-3.result
    c.sure_reply-in-Some-behind-4.result c.behind-3.ensures c.in_default-behind-2.not-Some
    (answer-later reply_takes_no_memory (codes "committed ") (made (λ p. Committed p.0 p.1) (both id_text (by_prefix from_rows))) (drop 8 reply_text_rows)
    c.args.words.now c.behind-4.result c.sure_reply-in-Some-behind-4.result c.behind-4.ensures c.in_default-behind-3.not-Some
    (answer-first reply_takes_no_memory (codes "ended ") (made Ended id_text) (drop 9 reply_text_rows) c.args.words.now c.in-Some-behind-4.left
    c.sure_reply-in-Some-behind-4.result c.in-Some-behind-4.ensures (answer-same reply_takes_no_memory c.read_ended.result (whole (made Ended id_text)
    c.in-Some-behind-4.left) c.sure_reply-in-Some-behind-4.result c.read_ended.ensures c.sure_reply-in-Some-behind-4.ensures)))))

pub returns : goal.returns
returns c =
    answer-later reply_takes_no_memory (codes "deleted ") (made Deleted id_text) (drop 5 reply_text_rows) c.args.words.now c.behind.result
    c.read_list_reply.result c.behind.ensures c.in_default.not-Some
    (answer-later reply_takes_no_memory (codes "absent ") (nothing_but Absent) (drop 6 reply_text_rows) c.args.words.now c.behind-2.result
    c.read_list_reply.result c.behind-2.ensures c.in_default-behind.not-Some
    (answer-later reply_takes_no_memory (codes "done ") (nothing_but Done) (drop 7 reply_text_rows) c.args.words.now c.behind-3.result
    c.read_list_reply.result c.behind-3.ensures c.in_default-behind-2.not-Some
    (answer-later reply_takes_no_memory (codes "committed ") (made (λ p. Committed p.0 p.1) (both id_text (by_prefix from_rows))) (drop 8 reply_text_rows)
    c.args.words.now c.behind-4.result c.read_list_reply.result c.behind-4.ensures c.in_default-behind-3.not-Some
    (answer-later reply_takes_no_memory (codes "ended ") (made Ended id_text) (drop 9 reply_text_rows) c.args.words.now c.behind-5.result
    c.read_list_reply.result c.behind-5.ensures c.in_default-behind-4.not-Some
    (c.read_list_reply.ensures)))))

use Rattle.std.proofs.Common.{Err, codes, drop, refl}
use Rattle.tardis_base.specs.declared.replies.Reply.TheVariants.{Applied, Known, Early, Closed, Refused, NoMemory}
use Rattle.wire_item.specs.Fronts.{made, nothing_but, whole}
use Rattle.wire_talk.specs.Memory.{reply_takes_no_memory}
use Rattle.shell_text.specs.ReplyTexts.{refusal_text, reply_text_rows, u32_text}
use Rattle.tardis_base.specs.declared.faults.ReadFault.TheVariants.{Malformed}
use Rattle.shell_text.proofs.NamedReads.{answer-first, answer-later, answer-same}
use Rattle.reply_text.proofs.reply_line_readers.read_other_reply.Goals as goal

pub returns-in-Some : goal.returns-in-Some
returns-in-Some c =
    answer-first reply_takes_no_memory (codes "applied ") (nothing_but Applied) (drop 17 reply_text_rows) c.args.words.now c.in-Some.left c.sure_reply.result
    c.in-Some.ensures (answer-same reply_takes_no_memory c.alone.result (whole (nothing_but Applied) c.in-Some.left) c.sure_reply.result c.alone.ensures
    c.sure_reply.ensures)

pub returns-in-Some-behind : goal.returns-in-Some-behind
returns-in-Some-behind c =
    answer-later reply_takes_no_memory (codes "applied ") (nothing_but Applied) (drop 17 reply_text_rows) c.args.words.now c.behind.result
    c.sure_reply-in-Some-behind.result c.behind.ensures c.in_default.not-Some
    (answer-first reply_takes_no_memory (codes "known ") (nothing_but Known) (drop 18 reply_text_rows) c.args.words.now c.in-Some-behind.left
    c.sure_reply-in-Some-behind.result c.in-Some-behind.ensures (answer-same reply_takes_no_memory c.alone-in-Some-behind.result (whole (nothing_but Known)
    c.in-Some-behind.left) c.sure_reply-in-Some-behind.result c.alone-in-Some-behind.ensures c.sure_reply-in-Some-behind.ensures))

pub returns-in-Some-behind-2 : goal.returns-in-Some-behind-2
returns-in-Some-behind-2 c =
    answer-later reply_takes_no_memory (codes "applied ") (nothing_but Applied) (drop 17 reply_text_rows) c.args.words.now c.behind.result
    c.sure_reply-in-Some-behind-2.result c.behind.ensures c.in_default.not-Some
    (answer-later reply_takes_no_memory (codes "known ") (nothing_but Known) (drop 18 reply_text_rows) c.args.words.now c.behind-2.result
    c.sure_reply-in-Some-behind-2.result c.behind-2.ensures c.in_default-behind.not-Some
    (answer-first reply_takes_no_memory (codes "early ") (made Early u32_text) (drop 19 reply_text_rows) c.args.words.now c.in-Some-behind-2.left
    c.sure_reply-in-Some-behind-2.result c.in-Some-behind-2.ensures (answer-same reply_takes_no_memory c.read_early.result (whole (made Early u32_text)
    c.in-Some-behind-2.left) c.sure_reply-in-Some-behind-2.result c.read_early.ensures c.sure_reply-in-Some-behind-2.ensures)))

pub returns-in-Some-behind-3 : goal.returns-in-Some-behind-3
returns-in-Some-behind-3 c =
    answer-later reply_takes_no_memory (codes "applied ") (nothing_but Applied) (drop 17 reply_text_rows) c.args.words.now c.behind.result
    c.sure_reply-in-Some-behind-3.result c.behind.ensures c.in_default.not-Some
    (answer-later reply_takes_no_memory (codes "known ") (nothing_but Known) (drop 18 reply_text_rows) c.args.words.now c.behind-2.result
    c.sure_reply-in-Some-behind-3.result c.behind-2.ensures c.in_default-behind.not-Some
    (answer-later reply_takes_no_memory (codes "early ") (made Early u32_text) (drop 19 reply_text_rows) c.args.words.now c.behind-3.result
    c.sure_reply-in-Some-behind-3.result c.behind-3.ensures c.in_default-behind-2.not-Some
    (answer-first reply_takes_no_memory (codes "closed ") (nothing_but Closed) (drop 20 reply_text_rows) c.args.words.now c.in-Some-behind-3.left
    c.sure_reply-in-Some-behind-3.result c.in-Some-behind-3.ensures (answer-same reply_takes_no_memory c.alone-in-Some-behind-3.result (whole (nothing_but
    Closed) c.in-Some-behind-3.left) c.sure_reply-in-Some-behind-3.result c.alone-in-Some-behind-3.ensures c.sure_reply-in-Some-behind-3.ensures))))

pub returns-in-Some-behind-4 : goal.returns-in-Some-behind-4
returns-in-Some-behind-4 c =
    answer-later reply_takes_no_memory (codes "applied ") (nothing_but Applied) (drop 17 reply_text_rows) c.args.words.now c.behind.result
    c.read_refused.result c.behind.ensures c.in_default.not-Some
    (answer-later reply_takes_no_memory (codes "known ") (nothing_but Known) (drop 18 reply_text_rows) c.args.words.now c.behind-2.result
    c.read_refused.result c.behind-2.ensures c.in_default-behind.not-Some
    (answer-later reply_takes_no_memory (codes "early ") (made Early u32_text) (drop 19 reply_text_rows) c.args.words.now c.behind-3.result
    c.read_refused.result c.behind-3.ensures c.in_default-behind-2.not-Some
    (answer-later reply_takes_no_memory (codes "closed ") (nothing_but Closed) (drop 20 reply_text_rows) c.args.words.now c.behind-4.result
    c.read_refused.result c.behind-4.ensures c.in_default-behind-3.not-Some
    (answer-first reply_takes_no_memory (codes "refused ") (made Refused refusal_text) (drop 21 reply_text_rows) c.args.words.now c.in-Some-behind-4.left
    c.read_refused.result c.in-Some-behind-4.ensures (c.read_refused.ensures)))))

pub returns-in-Some-behind-5 : goal.returns-in-Some-behind-5
returns-in-Some-behind-5 c =
    answer-later reply_takes_no_memory (codes "applied ") (nothing_but Applied) (drop 17 reply_text_rows) c.args.words.now c.behind.result
    c.sure_reply-in-Some-behind-5.result c.behind.ensures c.in_default.not-Some
    (answer-later reply_takes_no_memory (codes "known ") (nothing_but Known) (drop 18 reply_text_rows) c.args.words.now c.behind-2.result
    c.sure_reply-in-Some-behind-5.result c.behind-2.ensures c.in_default-behind.not-Some
    (answer-later reply_takes_no_memory (codes "early ") (made Early u32_text) (drop 19 reply_text_rows) c.args.words.now c.behind-3.result
    c.sure_reply-in-Some-behind-5.result c.behind-3.ensures c.in_default-behind-2.not-Some
    (answer-later reply_takes_no_memory (codes "closed ") (nothing_but Closed) (drop 20 reply_text_rows) c.args.words.now c.behind-4.result
    c.sure_reply-in-Some-behind-5.result c.behind-4.ensures c.in_default-behind-3.not-Some
    (answer-later reply_takes_no_memory (codes "refused ") (made Refused refusal_text) (drop 21 reply_text_rows) c.args.words.now c.behind-5.result
    c.sure_reply-in-Some-behind-5.result c.behind-5.ensures c.in_default-behind-4.not-Some
    (answer-first reply_takes_no_memory (codes "nomemory ") (nothing_but NoMemory) (drop 22 reply_text_rows) c.args.words.now c.in-Some-behind-5.left
    c.sure_reply-in-Some-behind-5.result c.in-Some-behind-5.ensures (answer-same reply_takes_no_memory c.alone-in-Some-behind-5.result (whole (nothing_but
    NoMemory) c.in-Some-behind-5.left) c.sure_reply-in-Some-behind-5.result c.alone-in-Some-behind-5.ensures c.sure_reply-in-Some-behind-5.ensures))))))

pub returns : goal.returns
returns c =
    answer-later reply_takes_no_memory (codes "applied ") (nothing_but Applied) (drop 17 reply_text_rows) c.args.words.now c.behind.result (Err Malformed)
    c.behind.ensures c.in_default.not-Some
    (answer-later reply_takes_no_memory (codes "known ") (nothing_but Known) (drop 18 reply_text_rows) c.args.words.now c.behind-2.result (Err Malformed)
    c.behind-2.ensures c.in_default-behind.not-Some
    (answer-later reply_takes_no_memory (codes "early ") (made Early u32_text) (drop 19 reply_text_rows) c.args.words.now c.behind-3.result (Err Malformed)
    c.behind-3.ensures c.in_default-behind-2.not-Some
    (answer-later reply_takes_no_memory (codes "closed ") (nothing_but Closed) (drop 20 reply_text_rows) c.args.words.now c.behind-4.result (Err Malformed)
    c.behind-4.ensures c.in_default-behind-3.not-Some
    (answer-later reply_takes_no_memory (codes "refused ") (made Refused refusal_text) (drop 21 reply_text_rows) c.args.words.now c.behind-5.result (Err
    Malformed) c.behind-5.ensures c.in_default-behind-4.not-Some
    (answer-later reply_takes_no_memory (codes "nomemory ") (nothing_but NoMemory) (drop 22 reply_text_rows) c.args.words.now c.behind-6.result (Err
    Malformed) c.behind-6.ensures c.in_default-behind-5.not-Some
    (refl))))))

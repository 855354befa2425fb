use Rattle.std.proofs.Common.{codes, drop}
use Rattle.tardis_base.specs.declared.replies.Refusal.TheVariants.{Malformed, NotOpen, AlreadyOpen, SessionsFull}
use Rattle.wire_item.specs.Fronts.{made, nothing_but, whole}
use Rattle.wire_talk.specs.Memory.{refusal_takes_no_memory}
use Rattle.shell_text.specs.ReplyTexts.{refusal_text_rows, u16_text}
use Rattle.shell_text.proofs.NamedReads.{answer-first, answer-later, answer-same}
use Rattle.reply_text.proofs.refusal_word_readers.read_refusal.Goals as goal

pub returns-in-Some : goal.returns-in-Some
returns-in-Some c =
    answer-first refusal_takes_no_memory (codes "malformed ") (nothing_but Malformed) (drop 1 refusal_text_rows) c.args.words.now c.in-Some.left c.sure.result
    c.in-Some.ensures (answer-same refusal_takes_no_memory c.alone.result (whole (nothing_but Malformed) c.in-Some.left) c.sure.result c.alone.ensures
    c.sure.ensures)

pub returns-in-Some-behind : goal.returns-in-Some-behind
returns-in-Some-behind c =
    answer-later refusal_takes_no_memory (codes "malformed ") (nothing_but Malformed) (drop 1 refusal_text_rows) c.args.words.now c.behind.result
    c.sure-in-Some-behind.result c.behind.ensures c.in_default.not-Some
    (answer-first refusal_takes_no_memory (codes "notopen ") (nothing_but NotOpen) (drop 2 refusal_text_rows) c.args.words.now c.in-Some-behind.left
    c.sure-in-Some-behind.result c.in-Some-behind.ensures (answer-same refusal_takes_no_memory c.alone-in-Some-behind.result (whole (nothing_but NotOpen)
    c.in-Some-behind.left) c.sure-in-Some-behind.result c.alone-in-Some-behind.ensures c.sure-in-Some-behind.ensures))

pub returns-in-Some-behind-2 : goal.returns-in-Some-behind-2
returns-in-Some-behind-2 c =
    answer-later refusal_takes_no_memory (codes "malformed ") (nothing_but Malformed) (drop 1 refusal_text_rows) c.args.words.now c.behind.result
    c.sure-in-Some-behind-2.result c.behind.ensures c.in_default.not-Some
    (answer-later refusal_takes_no_memory (codes "notopen ") (nothing_but NotOpen) (drop 2 refusal_text_rows) c.args.words.now c.behind-2.result
    c.sure-in-Some-behind-2.result c.behind-2.ensures c.in_default-behind.not-Some
    (answer-first refusal_takes_no_memory (codes "alreadyopen ") (nothing_but AlreadyOpen) (drop 3 refusal_text_rows) c.args.words.now c.in-Some-behind-2.left
    c.sure-in-Some-behind-2.result c.in-Some-behind-2.ensures (answer-same refusal_takes_no_memory c.alone-in-Some-behind-2.result (whole (nothing_but
    AlreadyOpen) c.in-Some-behind-2.left) c.sure-in-Some-behind-2.result c.alone-in-Some-behind-2.ensures c.sure-in-Some-behind-2.ensures)))

pub returns-in-Some-behind-3 : goal.returns-in-Some-behind-3
returns-in-Some-behind-3 c =
    answer-later refusal_takes_no_memory (codes "malformed ") (nothing_but Malformed) (drop 1 refusal_text_rows) c.args.words.now c.behind.result
    c.sure-in-Some-behind-3.result c.behind.ensures c.in_default.not-Some
    (answer-later refusal_takes_no_memory (codes "notopen ") (nothing_but NotOpen) (drop 2 refusal_text_rows) c.args.words.now c.behind-2.result
    c.sure-in-Some-behind-3.result c.behind-2.ensures c.in_default-behind.not-Some
    (answer-later refusal_takes_no_memory (codes "alreadyopen ") (nothing_but AlreadyOpen) (drop 3 refusal_text_rows) c.args.words.now c.behind-3.result
    c.sure-in-Some-behind-3.result c.behind-3.ensures c.in_default-behind-2.not-Some
    (answer-first refusal_takes_no_memory (codes "sessionsfull ") (made SessionsFull u16_text) (drop 4 refusal_text_rows) c.args.words.now
    c.in-Some-behind-3.left c.sure-in-Some-behind-3.result c.in-Some-behind-3.ensures (answer-same refusal_takes_no_memory c.sessions_full.result (whole (made
    SessionsFull u16_text) c.in-Some-behind-3.left) c.sure-in-Some-behind-3.result c.sessions_full.ensures c.sure-in-Some-behind-3.ensures))))

pub returns : goal.returns
returns c =
    answer-later refusal_takes_no_memory (codes "malformed ") (nothing_but Malformed) (drop 1 refusal_text_rows) c.args.words.now c.behind.result
    c.read_txn_refusal.result c.behind.ensures c.in_default.not-Some
    (answer-later refusal_takes_no_memory (codes "notopen ") (nothing_but NotOpen) (drop 2 refusal_text_rows) c.args.words.now c.behind-2.result
    c.read_txn_refusal.result c.behind-2.ensures c.in_default-behind.not-Some
    (answer-later refusal_takes_no_memory (codes "alreadyopen ") (nothing_but AlreadyOpen) (drop 3 refusal_text_rows) c.args.words.now c.behind-3.result
    c.read_txn_refusal.result c.behind-3.ensures c.in_default-behind-2.not-Some
    (answer-later refusal_takes_no_memory (codes "sessionsfull ") (made SessionsFull u16_text) (drop 4 refusal_text_rows) c.args.words.now c.behind-4.result
    c.read_txn_refusal.result c.behind-4.ensures c.in_default-behind-3.not-Some
    (c.read_txn_refusal.ensures))))

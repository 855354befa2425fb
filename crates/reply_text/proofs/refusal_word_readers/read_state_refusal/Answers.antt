use Rattle.std.proofs.Common.{codes, drop}
use Rattle.tardis_base.specs.declared.replies.Refusal.TheVariants.{Unknown, Below, Comparable, NotRead}
use Rattle.wire_item.specs.Fronts.{both, made, whole}
use Rattle.wire_talk.specs.Memory.{refusal_takes_no_memory}
use Rattle.shell_text.specs.ReplyTexts.{id_text, refusal_text_rows}
use Rattle.shell_text.proofs.NamedReads.{answer-first, answer-later, answer-same}
use Rattle.reply_text.proofs.refusal_word_readers.read_state_refusal.Goals as goal

pub returns-in-Some : goal.returns-in-Some
returns-in-Some c =
    answer-first refusal_takes_no_memory (codes "unknown ") (made Unknown id_text) (drop 11 refusal_text_rows) c.args.words.now c.in-Some.left c.sure.result
    c.in-Some.ensures (answer-same refusal_takes_no_memory c.unknown.result (whole (made Unknown id_text) c.in-Some.left) c.sure.result c.unknown.ensures
    c.sure.ensures)

pub returns-in-Some-behind : goal.returns-in-Some-behind
returns-in-Some-behind c =
    answer-later refusal_takes_no_memory (codes "unknown ") (made Unknown id_text) (drop 11 refusal_text_rows) c.args.words.now c.behind.result
    c.sure-in-Some-behind.result c.behind.ensures c.in_default.not-Some
    (answer-first refusal_takes_no_memory (codes "below ") (made (λ p. Below p.0 p.1) (both id_text id_text)) (drop 12 refusal_text_rows) c.args.words.now
    c.in-Some-behind.left c.sure-in-Some-behind.result c.in-Some-behind.ensures (answer-same refusal_takes_no_memory c.below.result (whole (made (λ p. Below
    p.0 p.1) (both id_text id_text)) c.in-Some-behind.left) c.sure-in-Some-behind.result c.below.ensures c.sure-in-Some-behind.ensures))

pub returns-in-Some-behind-2 : goal.returns-in-Some-behind-2
returns-in-Some-behind-2 c =
    answer-later refusal_takes_no_memory (codes "unknown ") (made Unknown id_text) (drop 11 refusal_text_rows) c.args.words.now c.behind.result
    c.sure-in-Some-behind-2.result c.behind.ensures c.in_default.not-Some
    (answer-later refusal_takes_no_memory (codes "below ") (made (λ p. Below p.0 p.1) (both id_text id_text)) (drop 12 refusal_text_rows) c.args.words.now
    c.behind-2.result c.sure-in-Some-behind-2.result c.behind-2.ensures c.in_default-behind.not-Some
    (answer-first refusal_takes_no_memory (codes "comparable ") (made (λ p. Comparable p.0 p.1) (both id_text id_text)) (drop 13 refusal_text_rows)
    c.args.words.now c.in-Some-behind-2.left c.sure-in-Some-behind-2.result c.in-Some-behind-2.ensures (answer-same refusal_takes_no_memory
    c.comparable.result (whole (made (λ p. Comparable p.0 p.1) (both id_text id_text)) c.in-Some-behind-2.left) c.sure-in-Some-behind-2.result
    c.comparable.ensures c.sure-in-Some-behind-2.ensures)))

pub returns-in-Some-behind-3 : goal.returns-in-Some-behind-3
returns-in-Some-behind-3 c =
    answer-later refusal_takes_no_memory (codes "unknown ") (made Unknown id_text) (drop 11 refusal_text_rows) c.args.words.now c.behind.result
    c.sure-in-Some-behind-3.result c.behind.ensures c.in_default.not-Some
    (answer-later refusal_takes_no_memory (codes "below ") (made (λ p. Below p.0 p.1) (both id_text id_text)) (drop 12 refusal_text_rows) c.args.words.now
    c.behind-2.result c.sure-in-Some-behind-3.result c.behind-2.ensures c.in_default-behind.not-Some
    (answer-later refusal_takes_no_memory (codes "comparable ") (made (λ p. Comparable p.0 p.1) (both id_text id_text)) (drop 13 refusal_text_rows)
    c.args.words.now c.behind-3.result c.sure-in-Some-behind-3.result c.behind-3.ensures c.in_default-behind-2.not-Some
    (answer-first refusal_takes_no_memory (codes "notread ") (made NotRead id_text) (drop 14 refusal_text_rows) c.args.words.now c.in-Some-behind-3.left
    c.sure-in-Some-behind-3.result c.in-Some-behind-3.ensures (answer-same refusal_takes_no_memory c.not_read.result (whole (made NotRead id_text)
    c.in-Some-behind-3.left) c.sure-in-Some-behind-3.result c.not_read.ensures c.sure-in-Some-behind-3.ensures))))

pub returns : goal.returns
returns c =
    answer-later refusal_takes_no_memory (codes "unknown ") (made Unknown id_text) (drop 11 refusal_text_rows) c.args.words.now c.behind.result
    c.read_conflict_refusal.result c.behind.ensures c.in_default.not-Some
    (answer-later refusal_takes_no_memory (codes "below ") (made (λ p. Below p.0 p.1) (both id_text id_text)) (drop 12 refusal_text_rows) c.args.words.now
    c.behind-2.result c.read_conflict_refusal.result c.behind-2.ensures c.in_default-behind.not-Some
    (answer-later refusal_takes_no_memory (codes "comparable ") (made (λ p. Comparable p.0 p.1) (both id_text id_text)) (drop 13 refusal_text_rows)
    c.args.words.now c.behind-3.result c.read_conflict_refusal.result c.behind-3.ensures c.in_default-behind-2.not-Some
    (answer-later refusal_takes_no_memory (codes "notread ") (made NotRead id_text) (drop 14 refusal_text_rows) c.args.words.now c.behind-4.result
    c.read_conflict_refusal.result c.behind-4.ensures c.in_default-behind-3.not-Some
    (c.read_conflict_refusal.ensures))))

use Rattle.std.proofs.Common.{codes, drop}
use Rattle.tardis_base.specs.declared.replies.Refusal.TheVariants.{ConflictKey, OpenConflict, Branches}
use Rattle.wire_item.specs.Fronts.{both, made, whole}
use Rattle.wire_talk.specs.Memory.{refusal_takes_no_memory}
use Rattle.shell_text.specs.ReplyTexts.{id_text, refusal_text_rows, u32_text}
use Rattle.shell_text.specs.RequestTexts.{key_text}
use Rattle.text_words.specs.Texts.{by_prefix}
use Rattle.shell_text.proofs.NamedReads.{answer-first, answer-later, answer-same}
use Rattle.reply_text.proofs.refusal_word_readers.read_conflict_refusal.Goals as goal

pub returns-in-Some : goal.returns-in-Some
returns-in-Some c =
    answer-first refusal_takes_no_memory (codes "conflictkey ") (made ConflictKey key_text) (drop 15 refusal_text_rows) c.args.words.now c.in-Some.left
    c.read_conflict_key.result c.in-Some.ensures (c.read_conflict_key.ensures)

pub returns-in-Some-behind : goal.returns-in-Some-behind
returns-in-Some-behind c =
    answer-later refusal_takes_no_memory (codes "conflictkey ") (made ConflictKey key_text) (drop 15 refusal_text_rows) c.args.words.now c.behind.result
    c.read_open_conflict.result c.behind.ensures c.in_default.not-Some
    (answer-first refusal_takes_no_memory (codes "openconflict ") (made OpenConflict key_text) (drop 16 refusal_text_rows) c.args.words.now
    c.in-Some-behind.left c.read_open_conflict.result c.in-Some-behind.ensures (c.read_open_conflict.ensures))

pub returns-in-Some-behind-2 : goal.returns-in-Some-behind-2
returns-in-Some-behind-2 c =
    answer-later refusal_takes_no_memory (codes "conflictkey ") (made ConflictKey key_text) (drop 15 refusal_text_rows) c.args.words.now c.behind.result
    c.sure.result c.behind.ensures c.in_default.not-Some
    (answer-later refusal_takes_no_memory (codes "openconflict ") (made OpenConflict key_text) (drop 16 refusal_text_rows) c.args.words.now c.behind-2.result
    c.sure.result c.behind-2.ensures c.in_default-behind.not-Some
    (answer-first refusal_takes_no_memory (codes "branches nb ") (made (λ p. Branches 4 p.0 p.1) (both id_text u32_text)) (drop 17 refusal_text_rows)
    c.args.words.now c.in-Some-behind-2.left c.sure.result c.in-Some-behind-2.ensures (answer-same refusal_takes_no_memory c.branches.result (whole (made (λ
    p. Branches 4 p.0 p.1) (both id_text u32_text)) c.in-Some-behind-2.left) c.sure.result c.branches.ensures c.sure.ensures)))

pub returns-in-Some-behind-3 : goal.returns-in-Some-behind-3
returns-in-Some-behind-3 c =
    answer-later refusal_takes_no_memory (codes "conflictkey ") (made ConflictKey key_text) (drop 15 refusal_text_rows) c.args.words.now c.behind.result
    c.sure-in-Some-behind-3.result c.behind.ensures c.in_default.not-Some
    (answer-later refusal_takes_no_memory (codes "openconflict ") (made OpenConflict key_text) (drop 16 refusal_text_rows) c.args.words.now c.behind-2.result
    c.sure-in-Some-behind-3.result c.behind-2.ensures c.in_default-behind.not-Some
    (answer-later refusal_takes_no_memory (codes "branches nb ") (made (λ p. Branches 4 p.0 p.1) (both id_text u32_text)) (drop 17 refusal_text_rows)
    c.args.words.now c.behind-3.result c.sure-in-Some-behind-3.result c.behind-3.ensures c.in_default-behind-2.not-Some
    (answer-first refusal_takes_no_memory (codes "branches kb ") (made (λ p. Branches 8 p.0 p.1) (both id_text u32_text)) (drop 18 refusal_text_rows)
    c.args.words.now c.in-Some-behind-3.left c.sure-in-Some-behind-3.result c.in-Some-behind-3.ensures (answer-same refusal_takes_no_memory
    c.branches-in-Some-behind-3.result (whole (made (λ p. Branches 8 p.0 p.1) (both id_text u32_text)) c.in-Some-behind-3.left) c.sure-in-Some-behind-3.result
    c.branches-in-Some-behind-3.ensures c.sure-in-Some-behind-3.ensures))))

pub returns : goal.returns
returns c =
    answer-later refusal_takes_no_memory (codes "conflictkey ") (made ConflictKey key_text) (drop 15 refusal_text_rows) c.args.words.now c.behind.result
    c.sure-2.result c.behind.ensures c.in_default.not-Some
    (answer-later refusal_takes_no_memory (codes "openconflict ") (made OpenConflict key_text) (drop 16 refusal_text_rows) c.args.words.now c.behind-2.result
    c.sure-2.result c.behind-2.ensures c.in_default-behind.not-Some
    (answer-later refusal_takes_no_memory (codes "branches nb ") (made (λ p. Branches 4 p.0 p.1) (both id_text u32_text)) (drop 17 refusal_text_rows)
    c.args.words.now c.behind-3.result c.sure-2.result c.behind-3.ensures c.in_default-behind-2.not-Some
    (answer-later refusal_takes_no_memory (codes "branches kb ") (made (λ p. Branches 8 p.0 p.1) (both id_text u32_text)) (drop 18 refusal_text_rows)
    c.args.words.now c.behind-4.result c.sure-2.result c.behind-4.ensures c.in_default-behind-3.not-Some
    (answer-same refusal_takes_no_memory c.read_ceiling_refusal.result (whole (by_prefix (drop 18 refusal_text_rows)) c.args.words.now) c.sure-2.result
    c.read_ceiling_refusal.ensures c.sure-2.ensures))))

use Rattle.std.proofs.Common.{codes, drop}
use Rattle.tardis_base.specs.declared.replies.Reply.TheVariants.{States, Keys, Raised, Tidied}
use Rattle.wire_item.specs.Fronts.{both, made, whole}
use Rattle.wire_talk.specs.Memory.{reply_takes_no_memory}
use Rattle.shell_text.specs.ReplyTexts.{first_ids_text, first_keys_text, id_text, reply_text_rows, u32_text}
use Rattle.shell_text.proofs.NamedReads.{answer-first, answer-later, answer-same}
use Rattle.reply_text.proofs.reply_line_readers.read_list_reply.Goals as goal

pub returns-in-Some : goal.returns-in-Some
returns-in-Some c =
    answer-first reply_takes_no_memory (codes "states ") (made (λ p. States p.0 p.1) first_ids_text) (drop 10 reply_text_rows) c.args.words.now c.in-Some.left
    c.read_states.result c.in-Some.ensures (c.read_states.ensures)

pub returns-in-Some-behind : goal.returns-in-Some-behind
returns-in-Some-behind c =
    answer-later reply_takes_no_memory (codes "states ") (made (λ p. States p.0 p.1) first_ids_text) (drop 10 reply_text_rows) c.args.words.now
    c.behind.result c.read_keys.result c.behind.ensures c.in_default.not-Some
    (answer-first reply_takes_no_memory (codes "keys ") (made (λ p. Keys p.0 p.1) first_keys_text) (drop 11 reply_text_rows) c.args.words.now
    c.in-Some-behind.left c.read_keys.result c.in-Some-behind.ensures (c.read_keys.ensures))

pub returns-in-Some-behind-2 : goal.returns-in-Some-behind-2
returns-in-Some-behind-2 c =
    answer-later reply_takes_no_memory (codes "states ") (made (λ p. States p.0 p.1) first_ids_text) (drop 10 reply_text_rows) c.args.words.now
    c.behind.result c.sure_reply.result c.behind.ensures c.in_default.not-Some
    (answer-later reply_takes_no_memory (codes "keys ") (made (λ p. Keys p.0 p.1) first_keys_text) (drop 11 reply_text_rows) c.args.words.now
    c.behind-2.result c.sure_reply.result c.behind-2.ensures c.in_default-behind.not-Some
    (answer-first reply_takes_no_memory (codes "raised ") (made (λ p. Raised p.0 p.1) (both id_text u32_text)) (drop 12 reply_text_rows) c.args.words.now
    c.in-Some-behind-2.left c.sure_reply.result c.in-Some-behind-2.ensures (answer-same reply_takes_no_memory c.read_raised.result (whole (made (λ p. Raised
    p.0 p.1) (both id_text u32_text)) c.in-Some-behind-2.left) c.sure_reply.result c.read_raised.ensures c.sure_reply.ensures)))

pub returns-in-Some-behind-3 : goal.returns-in-Some-behind-3
returns-in-Some-behind-3 c =
    answer-later reply_takes_no_memory (codes "states ") (made (λ p. States p.0 p.1) first_ids_text) (drop 10 reply_text_rows) c.args.words.now
    c.behind.result c.sure_reply-in-Some-behind-3.result c.behind.ensures c.in_default.not-Some
    (answer-later reply_takes_no_memory (codes "keys ") (made (λ p. Keys p.0 p.1) first_keys_text) (drop 11 reply_text_rows) c.args.words.now
    c.behind-2.result c.sure_reply-in-Some-behind-3.result c.behind-2.ensures c.in_default-behind.not-Some
    (answer-later reply_takes_no_memory (codes "raised ") (made (λ p. Raised p.0 p.1) (both id_text u32_text)) (drop 12 reply_text_rows) c.args.words.now
    c.behind-3.result c.sure_reply-in-Some-behind-3.result c.behind-3.ensures c.in_default-behind-2.not-Some
    (answer-first reply_takes_no_memory (codes "tidied ") (made Tidied u32_text) (drop 13 reply_text_rows) c.args.words.now c.in-Some-behind-3.left
    c.sure_reply-in-Some-behind-3.result c.in-Some-behind-3.ensures (answer-same reply_takes_no_memory c.read_tidied.result (whole (made Tidied u32_text)
    c.in-Some-behind-3.left) c.sure_reply-in-Some-behind-3.result c.read_tidied.ensures c.sure_reply-in-Some-behind-3.ensures))))

pub returns : goal.returns
returns c =
    answer-later reply_takes_no_memory (codes "states ") (made (λ p. States p.0 p.1) first_ids_text) (drop 10 reply_text_rows) c.args.words.now
    c.behind.result c.read_shown_reply.result c.behind.ensures c.in_default.not-Some
    (answer-later reply_takes_no_memory (codes "keys ") (made (λ p. Keys p.0 p.1) first_keys_text) (drop 11 reply_text_rows) c.args.words.now
    c.behind-2.result c.read_shown_reply.result c.behind-2.ensures c.in_default-behind.not-Some
    (answer-later reply_takes_no_memory (codes "raised ") (made (λ p. Raised p.0 p.1) (both id_text u32_text)) (drop 12 reply_text_rows) c.args.words.now
    c.behind-3.result c.read_shown_reply.result c.behind-3.ensures c.in_default-behind-2.not-Some
    (answer-later reply_takes_no_memory (codes "tidied ") (made Tidied u32_text) (drop 13 reply_text_rows) c.args.words.now c.behind-4.result
    c.read_shown_reply.result c.behind-4.ensures c.in_default-behind-3.not-Some
    (c.read_shown_reply.ensures))))

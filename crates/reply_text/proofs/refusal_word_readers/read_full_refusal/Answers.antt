use Rattle.std.proofs.Common.{codes, drop}
use Rattle.tardis_base.specs.declared.replies.Refusal.TheVariants.{Full, PathFull, SeqEnd}
use Rattle.wire_item.specs.Fronts.{both, made, nothing_but}
use Rattle.shell_text.specs.ReplyTexts.{id_text, refusal_text_rows, u32_text}
use Rattle.shell_text.proofs.NamedReads.{whole-first, whole-later}
use Rattle.reply_text.proofs.refusal_word_readers.read_full_refusal.Goals as goal

pub returns-in-Some : goal.returns-in-Some
returns-in-Some c =
    whole-first (codes "full ") (made Full u32_text) (drop 23 refusal_text_rows) c.args.words.now c.in-Some.left c.full.result c.in-Some.ensures
    c.full.ensures

pub returns-in-Some-behind : goal.returns-in-Some-behind
returns-in-Some-behind c =
    whole-later (codes "full ") (made Full u32_text) (drop 23 refusal_text_rows) c.args.words.now c.behind.result c.path_full.result c.behind.ensures
    c.in_default.not-Some
    (whole-first (codes "pathfull ") (made (λ p. PathFull p.0 p.1) (both id_text u32_text)) (drop 24 refusal_text_rows) c.args.words.now c.in-Some-behind.left
    c.path_full.result c.in-Some-behind.ensures c.path_full.ensures)

pub returns-in-Some-behind-2 : goal.returns-in-Some-behind-2
returns-in-Some-behind-2 c =
    whole-later (codes "full ") (made Full u32_text) (drop 23 refusal_text_rows) c.args.words.now c.behind.result c.alone.result c.behind.ensures
    c.in_default.not-Some
    (whole-later (codes "pathfull ") (made (λ p. PathFull p.0 p.1) (both id_text u32_text)) (drop 24 refusal_text_rows) c.args.words.now c.behind-2.result
    c.alone.result c.behind-2.ensures c.in_default-behind.not-Some
    (whole-first (codes "seqend ") (nothing_but SeqEnd) (drop 25 refusal_text_rows) c.args.words.now c.in-Some-behind-2.left c.alone.result
    c.in-Some-behind-2.ensures c.alone.ensures))

pub returns : goal.returns
returns c =
    whole-later (codes "full ") (made Full u32_text) (drop 23 refusal_text_rows) c.args.words.now c.behind.result c.read_site_refusal.result c.behind.ensures
    c.in_default.not-Some
    (whole-later (codes "pathfull ") (made (λ p. PathFull p.0 p.1) (both id_text u32_text)) (drop 24 refusal_text_rows) c.args.words.now c.behind-2.result
    c.read_site_refusal.result c.behind-2.ensures c.in_default-behind.not-Some
    (whole-later (codes "seqend ") (nothing_but SeqEnd) (drop 25 refusal_text_rows) c.args.words.now c.behind-3.result c.read_site_refusal.result
    c.behind-3.ensures c.in_default-behind-2.not-Some
    (c.read_site_refusal.ensures)))

use Rattle.std.proofs.Common.{codes, drop}
use Rattle.tardis_base.specs.declared.replies.Refusal.TheVariants.{BadSite, ClosedParent, OwnItem}
use Rattle.wire_item.specs.Fronts.{both, made}
use Rattle.shell_text.specs.ReplyTexts.{id_text, refusal_text_rows, u16_text, u32_text}
use Rattle.shell_text.proofs.NamedReads.{whole-first, whole-later}
use Rattle.reply_text.proofs.refusal_word_readers.read_site_refusal.Goals as goal

pub returns-in-Some : goal.returns-in-Some
returns-in-Some c =
    whole-first (codes "badsite ") (made BadSite u16_text) (drop 26 refusal_text_rows) c.args.words.now c.in-Some.left c.bad_site.result c.in-Some.ensures
    c.bad_site.ensures

pub returns-in-Some-behind : goal.returns-in-Some-behind
returns-in-Some-behind c =
    whole-later (codes "badsite ") (made BadSite u16_text) (drop 26 refusal_text_rows) c.args.words.now c.behind.result c.closed_parent.result
    c.behind.ensures c.in_default.not-Some
    (whole-first (codes "closedparent ") (made ClosedParent id_text) (drop 27 refusal_text_rows) c.args.words.now c.in-Some-behind.left c.closed_parent.result
    c.in-Some-behind.ensures c.closed_parent.ensures)

pub returns-in-Some-behind-2 : goal.returns-in-Some-behind-2
returns-in-Some-behind-2 c =
    whole-later (codes "badsite ") (made BadSite u16_text) (drop 26 refusal_text_rows) c.args.words.now c.behind.result c.own_item.result c.behind.ensures
    c.in_default.not-Some
    (whole-later (codes "closedparent ") (made ClosedParent id_text) (drop 27 refusal_text_rows) c.args.words.now c.behind-2.result c.own_item.result
    c.behind-2.ensures c.in_default-behind.not-Some
    (whole-first (codes "ownitem ") (made (λ p. OwnItem p.0 p.1) (both u16_text u32_text)) (drop 28 refusal_text_rows) c.args.words.now
    c.in-Some-behind-2.left c.own_item.result c.in-Some-behind-2.ensures c.own_item.ensures))

pub returns : goal.returns
returns c =
    whole-later (codes "badsite ") (made BadSite u16_text) (drop 26 refusal_text_rows) c.args.words.now c.behind.result c.read_last_refusal.result
    c.behind.ensures c.in_default.not-Some
    (whole-later (codes "closedparent ") (made ClosedParent id_text) (drop 27 refusal_text_rows) c.args.words.now c.behind-2.result c.read_last_refusal.result
    c.behind-2.ensures c.in_default-behind.not-Some
    (whole-later (codes "ownitem ") (made (λ p. OwnItem p.0 p.1) (both u16_text u32_text)) (drop 28 refusal_text_rows) c.args.words.now c.behind-3.result
    c.read_last_refusal.result c.behind-3.ensures c.in_default-behind-2.not-Some
    (c.read_last_refusal.ensures)))

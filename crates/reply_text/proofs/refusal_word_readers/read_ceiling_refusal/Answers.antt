use Rattle.std.proofs.Common.{codes, drop}
use Rattle.tardis_base.specs.declared.replies.Refusal.TheVariants.{CeilingBack, FloorBack, Held, Collected}
use Rattle.wire_item.specs.Fronts.{both, made}
use Rattle.shell_text.specs.ReplyTexts.{id_text, refusal_text_rows, u16_text}
use Rattle.shell_text.proofs.NamedReads.{whole-first, whole-later}
use Rattle.reply_text.proofs.refusal_word_readers.read_ceiling_refusal.Goals as goal

pub returns-in-Some : goal.returns-in-Some
returns-in-Some c =
    whole-first (codes "ceilingback ") (made CeilingBack id_text) (drop 19 refusal_text_rows) c.args.words.now c.in-Some.left c.ceiling_back.result
    c.in-Some.ensures c.ceiling_back.ensures

pub returns-in-Some-behind : goal.returns-in-Some-behind
returns-in-Some-behind c =
    whole-later (codes "ceilingback ") (made CeilingBack id_text) (drop 19 refusal_text_rows) c.args.words.now c.behind.result c.floor_back.result
    c.behind.ensures c.in_default.not-Some
    (whole-first (codes "floorback ") (made FloorBack id_text) (drop 20 refusal_text_rows) c.args.words.now c.in-Some-behind.left c.floor_back.result
    c.in-Some-behind.ensures c.floor_back.ensures)

pub returns-in-Some-behind-2 : goal.returns-in-Some-behind-2
returns-in-Some-behind-2 c =
    whole-later (codes "ceilingback ") (made CeilingBack id_text) (drop 19 refusal_text_rows) c.args.words.now c.behind.result c.held.result c.behind.ensures
    c.in_default.not-Some
    (whole-later (codes "floorback ") (made FloorBack id_text) (drop 20 refusal_text_rows) c.args.words.now c.behind-2.result c.held.result c.behind-2.ensures
    c.in_default-behind.not-Some
    (whole-first (codes "held ") (made (λ p. Held p.0 p.1) (both u16_text id_text)) (drop 21 refusal_text_rows) c.args.words.now c.in-Some-behind-2.left
    c.held.result c.in-Some-behind-2.ensures c.held.ensures))

pub returns-in-Some-behind-3 : goal.returns-in-Some-behind-3
returns-in-Some-behind-3 c =
    whole-later (codes "ceilingback ") (made CeilingBack id_text) (drop 19 refusal_text_rows) c.args.words.now c.behind.result c.collected.result
    c.behind.ensures c.in_default.not-Some
    (whole-later (codes "floorback ") (made FloorBack id_text) (drop 20 refusal_text_rows) c.args.words.now c.behind-2.result c.collected.result
    c.behind-2.ensures c.in_default-behind.not-Some
    (whole-later (codes "held ") (made (λ p. Held p.0 p.1) (both u16_text id_text)) (drop 21 refusal_text_rows) c.args.words.now c.behind-3.result
    c.collected.result c.behind-3.ensures c.in_default-behind-2.not-Some
    (whole-first (codes "collected ") (made Collected id_text) (drop 22 refusal_text_rows) c.args.words.now c.in-Some-behind-3.left c.collected.result
    c.in-Some-behind-3.ensures c.collected.ensures)))

pub returns : goal.returns
returns c =
    whole-later (codes "ceilingback ") (made CeilingBack id_text) (drop 19 refusal_text_rows) c.args.words.now c.behind.result c.read_full_refusal.result
    c.behind.ensures c.in_default.not-Some
    (whole-later (codes "floorback ") (made FloorBack id_text) (drop 20 refusal_text_rows) c.args.words.now c.behind-2.result c.read_full_refusal.result
    c.behind-2.ensures c.in_default-behind.not-Some
    (whole-later (codes "held ") (made (λ p. Held p.0 p.1) (both u16_text id_text)) (drop 21 refusal_text_rows) c.args.words.now c.behind-3.result
    c.read_full_refusal.result c.behind-3.ensures c.in_default-behind-2.not-Some
    (whole-later (codes "collected ") (made Collected id_text) (drop 22 refusal_text_rows) c.args.words.now c.behind-4.result c.read_full_refusal.result
    c.behind-4.ensures c.in_default-behind-3.not-Some
    (c.read_full_refusal.ensures))))

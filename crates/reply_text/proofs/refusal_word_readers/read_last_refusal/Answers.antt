use Rattle.std.proofs.Common.{None, codes, drop, refl}
use Rattle.tardis_base.specs.declared.replies.Refusal.TheVariants.{TrailFull, Unsupported, NoSuchItem, BagFull}
use Rattle.wire_item.specs.Fronts.{made}
use Rattle.shell_text.specs.ReplyTexts.{refusal_text_rows, u32_text, u64_text, u8_text}
use Rattle.shell_text.proofs.NamedReads.{whole-first, whole-later}
use Rattle.reply_text.proofs.refusal_word_readers.read_last_refusal.Goals as goal

pub returns-in-Some : goal.returns-in-Some
returns-in-Some c =
    whole-first (codes "trailfull ") (made TrailFull u64_text) (drop 29 refusal_text_rows) c.args.words.now c.in-Some.left c.trail_full.result
    c.in-Some.ensures c.trail_full.ensures

pub returns-in-Some-behind : goal.returns-in-Some-behind
returns-in-Some-behind c =
    whole-later (codes "trailfull ") (made TrailFull u64_text) (drop 29 refusal_text_rows) c.args.words.now c.behind.result c.unsupported.result
    c.behind.ensures c.in_default.not-Some
    (whole-first (codes "unsupported ") (made Unsupported u8_text) (drop 30 refusal_text_rows) c.args.words.now c.in-Some-behind.left c.unsupported.result
    c.in-Some-behind.ensures c.unsupported.ensures)

pub returns-in-Some-behind-2 : goal.returns-in-Some-behind-2
returns-in-Some-behind-2 c =
    whole-later (codes "trailfull ") (made TrailFull u64_text) (drop 29 refusal_text_rows) c.args.words.now c.behind.result c.no_such_item.result
    c.behind.ensures c.in_default.not-Some
    (whole-later (codes "unsupported ") (made Unsupported u8_text) (drop 30 refusal_text_rows) c.args.words.now c.behind-2.result c.no_such_item.result
    c.behind-2.ensures c.in_default-behind.not-Some
    (whole-first (codes "nosuchitem ") (made NoSuchItem u32_text) (drop 31 refusal_text_rows) c.args.words.now c.in-Some-behind-2.left c.no_such_item.result
    c.in-Some-behind-2.ensures c.no_such_item.ensures))

pub returns-in-Some-behind-3 : goal.returns-in-Some-behind-3
returns-in-Some-behind-3 c =
    whole-later (codes "trailfull ") (made TrailFull u64_text) (drop 29 refusal_text_rows) c.args.words.now c.behind.result c.bag_full.result c.behind.ensures
    c.in_default.not-Some
    (whole-later (codes "unsupported ") (made Unsupported u8_text) (drop 30 refusal_text_rows) c.args.words.now c.behind-2.result c.bag_full.result
    c.behind-2.ensures c.in_default-behind.not-Some
    (whole-later (codes "nosuchitem ") (made NoSuchItem u32_text) (drop 31 refusal_text_rows) c.args.words.now c.behind-3.result c.bag_full.result
    c.behind-3.ensures c.in_default-behind-2.not-Some
    (whole-first (codes "bagfull ") (made BagFull u32_text) (drop 32 refusal_text_rows) c.args.words.now c.in-Some-behind-3.left c.bag_full.result
    c.in-Some-behind-3.ensures c.bag_full.ensures)))

pub returns : goal.returns
returns c =
    whole-later (codes "trailfull ") (made TrailFull u64_text) (drop 29 refusal_text_rows) c.args.words.now c.behind.result None c.behind.ensures
    c.in_default.not-Some
    (whole-later (codes "unsupported ") (made Unsupported u8_text) (drop 30 refusal_text_rows) c.args.words.now c.behind-2.result None c.behind-2.ensures
    c.in_default-behind.not-Some
    (whole-later (codes "nosuchitem ") (made NoSuchItem u32_text) (drop 31 refusal_text_rows) c.args.words.now c.behind-3.result None c.behind-3.ensures
    c.in_default-behind-2.not-Some
    (whole-later (codes "bagfull ") (made BagFull u32_text) (drop 32 refusal_text_rows) c.args.words.now c.behind-4.result None c.behind-4.ensures
    c.in_default-behind-3.not-Some
    (refl))))

use Rattle.std.proofs.Common.{◌≡◌, Bool, true, ◌&&◌, ap, sym, ◌∙◌}
use Rattle.std.proofs.lemmas.Bool.{and_left}
use Rattle.tardis_base.specs.Ids.{are_ascending}
use Rattle.tardis_base.specs.Valid.{is_within, are_parents}
use Rattle.wire_item.specs.Readings.{u8_front, id_front}
use Rattle.wire_item.proofs.Orders.{parents-tested}
use Rattle.text_words.specs.Words.{id_word}
use Rattle.text_words.specs.Puts.{putting, spaced, texts}
use Rattle.text_words.proofs.Sequences.{counted-lost, counted-refused, counted-ordered}
use Rattle.shell_text.proofs.list_fields.put_parents.Goals as goal

first-and : (s t : Bool) → s ≡ true → (s && t) ≡ t
first-and s t e = ap (λ x. x && t) e

pub returns-in-None : goal.returns-in-None
returns-in-None c = counted-lost u8_front id_front are_parents (texts c.args.lead.now (λ x. spaced (id_word x))) c.args.unread.now c.u8.new.self
    c.args.out.now c.in-None.ensures

pub returns-then-is_parent_count : goal.returns-then-is_parent_count
returns-then-is_parent_count c =
    c.put_ascending_ids.ensures
    ∙ counted-ordered u8_front id_front are_parents are_ascending (texts c.args.lead.now (λ x. spaced (id_word x))) c.args.unread.now c.in-Some.count
    c.u8.new.self c.args.out.now c.in-Some.ensures
    (λ mid xs rest e. parents-tested c.in-Some.count mid xs rest e
    ∙ first-and (is_within 1 8 c.in-Some.count) (are_ascending xs) (sym c.is_parent_count.ensures ∙ c.if-is_parent_count.true))

pub returns-else-is_parent_count : goal.returns-else-is_parent_count
returns-else-is_parent_count c =
    ap (λ o. putting o c.args.out.now) c.lose.ensures
    ∙ counted-refused u8_front id_front are_parents (texts c.args.lead.now (λ x. spaced (id_word x))) c.args.unread.now c.in-Some.count c.u8.new.self
    c.args.out.now c.in-Some.ensures
    (λ mid xs rest e. parents-tested c.in-Some.count mid xs rest e
    ∙ and_left (is_within 1 8 c.in-Some.count) (are_ascending xs) (sym c.is_parent_count.ensures ∙ c.if-is_parent_count.false))

use Rattle.std.proofs.Common.{◌∙◌, ap, sym, arith}
use Rattle.tardis_base.specs.declared.ids.StateId.{StateId}
use Rattle.tardis_base.specs.Ids.{is_before, are_ascending}
use Rattle.wire_item.specs.Readings.{id_front}
use Rattle.text_words.specs.Words.{id_word}
use Rattle.text_words.specs.Puts.{putting, spaced}
use Rattle.wire_item.proofs.Orders.{ids-order}
use Rattle.text_words.proofs.Sequences.{none-lost}
use Rattle.text_words.proofs.Ordered.{ordered-start, ordered-lost, ordered-none, ordered-breaks, ordered-more, ordered-whole}
use Rattle.shell_text.proofs.list_lines.put_ascending_ids.Goals as goal

pub returns-then-is_lost : goal.returns-then-is_lost
returns-then-is_lost c =
    ordered-lost are_ascending id_front c.args.count c.args.lead.now (λ x. spaced (id_word x)) (putting c.args.unread.now c.args.out.now) c.say.new.self
    c.say.new.out c.say.ensures
    (none-lost c.say.new.self (sym c.is_lost.ensures ∙ c.if-is_lost.true))

pub loop-place-init : goal.loop-place-init
loop-place-init c =
    ordered-start (λ (x : StateId). x) is_before are_ascending ids-order id_front c.args.lead.now (λ x. spaced (id_word x))
    (putting c.args.unread.now c.args.out.now) c.say.new.self c.say.new.out c.say.ensures
    (sym c.is_lost.ensures ∙ c.if-is_lost.false)

pub returns-in-None : goal.returns-in-None
returns-in-None c =
    ordered-none (λ (x : StateId). x) are_ascending id_front c.args.lead.now (λ x. spaced (id_word x)) (putting c.args.unread.now c.args.out.now)
    c.loop-place._place c.args.count c.loop-place.last
    c.loop-place.unread c.id.new.self c.loop-place.out c.loop-place.invariant c.in-None.ensures (omega arith)

pub returns-then-not-id_follows : goal.returns-then-not-id_follows
returns-then-not-id_follows c =
    ap (λ o. putting o c.loop-place.out) c.lose.ensures
    ∙ ordered-breaks (λ (x : StateId). x) is_before are_ascending ids-order id_front c.args.lead.now (λ x. spaced (id_word x))
    (putting c.args.unread.now c.args.out.now) c.loop-place._place c.args.count c.loop-place.last
    c.loop-place.unread c.in-Some.id c.id.new.self c.loop-place.out c.loop-place.invariant c.in-Some.ensures (sym c.if-not-id_follows.ensures) (omega arith)

pub loop-place-preserved : goal.loop-place-preserved
loop-place-preserved c =
    ordered-more (λ (x : StateId). x) is_before are_ascending ids-order id_front c.args.lead.now (λ x. spaced (id_word x))
    (putting c.args.unread.now c.args.out.now) c.loop-place._place c.loop-place.last
    c.loop-place.unread c.in-Some.id c.id.new.self c.loop-place.out (putting c.say_id.new.self c.say_id.new.out) c.loop-place.invariant c.in-Some.ensures
    (sym c.if-not-id_follows.ensures) c.say_id.ensures

pub returns : goal.returns
returns c =
    ordered-whole (λ (x : StateId). x) are_ascending id_front c.args.lead.now (λ x. spaced (id_word x)) (putting c.args.unread.now c.args.out.now)
    c.loop-place._place c.args.count c.loop-place.last
    (putting c.loop-place.unread c.loop-place.out) c.loop-place.invariant (omega arith)

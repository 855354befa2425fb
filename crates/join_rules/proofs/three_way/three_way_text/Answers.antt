use Rattle.std.proofs.Common.{[], sym, ap, ap₂, ◌∙◌}
use Rattle.tardis_base.specs.Keys.{are_ascending_keys}
use Rattle.join_rules.specs.Values.{three_way, union}
use Rattle.join_rules.proofs.ItemTexts.{with_items, items-ascend}
use Rattle.join_rules.proofs.Changes.{kept-first, kept-next, kept-put, kept-gone, kept-all}
use Rattle.join_rules.proofs.three_way.three_way_text.Goals as goal

pub new-item-items-requires-clause-left : goal.new-item-items-requires-clause-left
new-item-items-requires-clause-left c = ap are_ascending_keys c.again.ensures ∙ items-ascend c.args.left c.requires.left

pub new-item-items-requires-clause-right : goal.new-item-items-requires-clause-right
new-item-items-requires-clause-right c = ap are_ascending_keys c.again-2.ensures ∙ items-ascend c.args.right c.requires.right

pub loop-item-init : goal.loop-item-init
loop-item-init c =
    kept-first c.args.base c.args.left c.args.right c.requires.base c.requires.left c.requires.right c.into_iter-item-iterator.result c.new-text.result.items
    (c.into_iter-item-iterator.ensures.into_iter_gives ∙ c.new-item-items.ensures ∙ ap₂ union c.again.ensures c.again-2.ensures) c.new-text.ensures.items

pub loop-item-preserved-in-Continue-1 : goal.loop-item-preserved-in-Continue-1
loop-item-preserved-in-Continue-1 c =
    let whole = with_items [] (three_way c.args.base c.args.left c.args.right) in
    let kept =
    kept-next c.loop-item.base c.loop-item.left c.loop-item.right c.in-Some.item.now c.next.new.self c.loop-item.item-iterator c.loop-item.text.items whole
    c.in-Some.ensures.steps c.loop-item.invariant in
    kept-put c.loop-item.base c.loop-item.left c.loop-item.right c.in-Some.item.now c.next.new.self c.loop-item.text.items whole kept
    c.from_item-base.result c.from_item-left.result c.from_item-right.result c.from_item-base.ensures c.from_item-left.ensures c.from_item-right.ensures
    (sym c.stays_first.ensures ∙ c.if-stays_first.true) c.put_item.new.text.items c.in_ok-put_item.ensures

pub loop-item-preserved : goal.loop-item-preserved
loop-item-preserved c =
    let whole = with_items [] (three_way c.args.base c.args.left c.args.right) in
    let kept =
    kept-next c.loop-item.base c.loop-item.left c.loop-item.right c.in-Some.item.now c.next.new.self c.loop-item.item-iterator c.loop-item.text.items whole
    c.in-Some.ensures.steps c.loop-item.invariant in
    kept-gone c.loop-item.base c.loop-item.left c.loop-item.right c.in-Some.item.now c.next.new.self c.loop-item.text.items whole kept
    c.from_item-base.result c.from_item-left.result c.from_item-right.result c.from_item-base.ensures c.from_item-left.ensures c.from_item-right.ensures
    (sym c.stays_first.ensures ∙ c.if-stays_first.false)

pub returns : goal.returns
returns c =
    kept-all c.args.base c.args.left c.args.right c.loop-item.text.items c.loop-item.base c.loop-item.left c.loop-item.right c.loop-item.item-iterator
    c.requires.left c.requires.right c.in-None.ensures.steps.0 c.loop-item.invariant

use Rattle.std.proofs.Common.{[]}
use Rattle.join_rules.specs.Values.{three_way}
use Rattle.join_rules.proofs.ItemTexts.{with_items}
use Rattle.join_rules.proofs.Changes.{Kept}
use Rattle.join_rules.proofs.three_way.three_way_text.Given as goal

abbrev pub invariant-loop-item : goal.invariant-loop-item
invariant-loop-item l = Kept l.base l.left l.right l.item-iterator l.text.items (with_items [] (three_way l.fn.base l.fn.left l.fn.right))

use Rattle.std.proofs.Common.{◌≡◌, []}
use Rattle.join_rules.specs.Values.{union}
use Rattle.join_rules.proofs.ItemTexts.{with_items}
use Rattle.join_rules.proofs.sets.union_text.Given as goal

abbrev pub invariant-loop-item : goal.invariant-loop-item
invariant-loop-item l = with_items [] (union l.fn.left l.fn.right) ≡ with_items l.text.items l.item-iterator

use Rattle.std.proofs.Common.{◌≡◌, length}
use Rattle.join_rules.specs.Passing.{from_item}
use Rattle.join_rules.proofs.three_way.from_item.Given as goal

abbrev pub invariant-loop-first : goal.invariant-loop-first
invariant-loop-first l = from_item l.item l.left ≡ from_item l.item l.fn.items

abbrev pub decreases-loop-first : goal.decreases-loop-first
decreases-loop-first l = length l.left

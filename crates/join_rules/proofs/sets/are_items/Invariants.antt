use Rattle.std.proofs.Common.{◌≡◌, [], ◌∷◌}
use Rattle.tardis_base.specs.Keys.{are_ascending_keys}
use Rattle.join_rules.proofs.sets.are_items.Given as goal

abbrev pub invariant-loop-item : goal.invariant-loop-item
invariant-loop-item l = are_ascending_keys ([] ∷ l.fn.items) ≡ are_ascending_keys (l.before ∷ l.item-iterator)

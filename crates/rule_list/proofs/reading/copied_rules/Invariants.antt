use Rattle.std.proofs.Common.{◌≡◌, ◌++◌, length, map}
use Rattle.std.specs.Prelude.{option_map}
use Rattle.rule_list.specs.Parts.{parts_left}
use Rattle.rule_list.specs.RuleTexts.{parts, rule_of}
use Rattle.rule_list.proofs.reading.copied_rules.Given as goal

abbrev pub invariant-loop-left : goal.invariant-loop-left
invariant-loop-left l = l.rules.items ++ map rule_of (parts_left (option_map (λ t. t.now) l.left)) ≡ map rule_of (parts l.fn.text)

abbrev pub decreases-loop-left : goal.decreases-loop-left
decreases-loop-left l = length (parts_left (option_map (λ t. t.now) l.left))

use Rattle.std.proofs.Common.{◌≡◌, length, map}
use Rattle.std.specs.List.{list_any}
use Rattle.std.specs.Prelude.{bytes_eq, option_map}
use Rattle.rule_list.specs.Parts.{parts_left}
use Rattle.rule_list.specs.RuleTexts.{prefix_of}
use Rattle.rule_list.proofs.reading.has_prefix.Given as goal

abbrev pub invariant-loop-left : goal.invariant-loop-left
invariant-loop-left l =
    list_any (bytes_eq l.prefix) (map prefix_of (parts_left (option_map (λ t. t.now) l.left)))
    ≡ list_any (bytes_eq l.prefix) (map prefix_of (parts_left (option_map (λ t. t.now) l.fn.text)))

abbrev pub decreases-loop-left : goal.decreases-loop-left
decreases-loop-left l = length (parts_left (option_map (λ t. t.now) l.left))

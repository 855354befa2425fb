-- The rule of the longest prefix, while the rules are gone through.
use Rattle.std.proofs.Common.{ℕ, length, Option, Some, None, if◌then◌else◌}
use Rattle.std.specs.Prelude.{nat_le}
use Rattle.rule_list.specs.declared.rules.Rule.{Rule}
use Rattle.rule_list.specs.declared.rules.PrefixRule.{PrefixRule}

-- the rule, where the best so far has this length and rule, and of the others this is the longest
abbrev pub with_best : Option (ℕ × Rule) → PrefixRule → Rule
with_best None other = other.rule
with_best (Some best) other = if nat_le (length other.prefix) best.0 then best.1 else other.rule

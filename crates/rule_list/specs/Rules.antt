-- Rules for keys by their prefixes, and which of them is that of a key.
use Rattle.std.specs.Prelude.{ℕ, Bool, List, [], ◌∷◌, length, filter, nat_eq, nat_le, if◌then◌else◌}
use Rattle.std.specs.List.{starts_with}
use Rattle.rule_list.specs.declared.rules.Rule.{Rule}
use Rattle.rule_list.specs.declared.rules.Rule.TheVariants.{Refuse}
use Rattle.rule_list.specs.declared.rules.PrefixRule.{PrefixRule}

-- the rule's prefix begins the key
abbrev pub begins : List ℕ → PrefixRule → Bool
begins key r = starts_with nat_eq key r.prefix

-- the one with the longest prefix; without any, `refuse`
abbrev pub longest : List PrefixRule → PrefixRule
longest [] = record { prefix = []; rule = Refuse }
longest (r ∷ rs) = let other = longest rs in if nat_le (length other.prefix) (length r.prefix) then r else other

-- the rule of a key: that of the longest prefix that begins it
abbrev pub rule_for : List PrefixRule → List ℕ → Rule
rule_for rules key = (longest (filter (begins key) rules)).rule

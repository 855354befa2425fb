-- How rules are written.
use Rattle.std.specs.Prelude.{ℕ, Bool, true, ◌==◌, ◌&&◌, not, List, [], ◌∷◌, Option, Some, None, length, map, codes, bytes_eq, nat_le, if◌then◌else◌}
use Rattle.std.specs.List.{list_all, list_any, slice_split, before_first, after_first}
use Rattle.tardis_base.specs.Bytes.{is_within}
use Rattle.rule_list.specs.declared.rules.Rule.{Rule}
use Rattle.rule_list.specs.declared.rules.Rule.TheVariants.{Last, Count, Set, Set3, Refuse}
use Rattle.rule_list.specs.declared.rules.PrefixRule.{PrefixRule}

-- what stands between the commas
abbrev pub parts : List ℕ → List (List ℕ)
parts text = slice_split (λ b. b == 44) text

-- what stands before the first `=` of a part, which is all where there is none
abbrev pub prefix_of : List ℕ → List ℕ
prefix_of part = before_first (λ b. b == 61) part

-- what stands behind it, which is nothing where there is none
abbrev pub name_of : List ℕ → List ℕ
name_of part = after_first (λ b. b == 61) part

-- each byte is one of `!` to `~`
abbrev pub are_printed : List ℕ → Bool
are_printed bytes = list_all (λ b. is_within 33 126 b) bytes

-- at most 64 printed bytes. A comma or a `=` would have ended it
abbrev pub is_prefix : List ℕ → Bool
is_prefix prefix = nat_le (length prefix) 64 && are_printed prefix

-- the names of the rules
abbrev pub is_name : List ℕ → Bool
is_name name = list_any (bytes_eq name) (codes "last" ∷ codes "count" ∷ codes "set" ∷ codes "set3" ∷ codes "refuse" ∷ [])

abbrev pub rule_named : List ℕ → Rule
rule_named name =
    if bytes_eq name (codes "last") then Last else
    (if bytes_eq name (codes "count") then Count else
    (if bytes_eq name (codes "set") then Set else
    (if bytes_eq name (codes "set3") then Set3 else Refuse)))

-- a prefix, `=`, and the name of a rule
abbrev pub is_rule : List ℕ → Bool
is_rule part = is_prefix (prefix_of part) && is_name (name_of part)

abbrev pub rule_of : List ℕ → PrefixRule
rule_of part = record { prefix = prefix_of part; rule = rule_named (name_of part) }

-- no two are the same
abbrev pub are_distinct : List (List ℕ) → Bool
are_distinct [] = true
are_distinct (p ∷ ps) = not (list_any (bytes_eq p) ps) && are_distinct ps

-- at most 16 rules, with distinct prefixes
abbrev pub are_rules : List (List ℕ) → Bool
are_rules found = nat_le (length found) 16 && list_all is_rule found && are_distinct (map prefix_of found)

-- the rules that a text writes, in order, where it has the form
abbrev pub rules_of : List ℕ → Option (List PrefixRule)
rules_of text = if are_rules (parts text) then Some (map rule_of (parts text)) else None

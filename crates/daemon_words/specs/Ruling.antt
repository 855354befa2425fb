-- The options of a server that name rules, and how long it leaves joins to other sites.
use Rattle.std.specs.Prelude.{ℕ, nat_lt, length, List, [], ◌∷◌, Option, Some, None, codes, if◌then◌else◌}
use Rattle.rule_list.specs.RuleTexts.{parts, are_rules}
use Rattle.command_words.specs.Settings.{Setting}
use Rattle.command_words.specs.Values.{number_or}
use Rattle.command_words.specs.Forms.{of}
use Rattle.daemon_words.specs.Values.{may_stand}

-- a text of rules, where the option is there
abbrev pub rules_or_none : List (Option (List ℕ)) → Option (Option (List ℕ))
rules_or_none [] = Some None
rules_or_none (Some text ∷ []) = if are_rules (parts text) then Some (Some text) else None
rules_or_none _ = None

abbrev pub rules : List Setting → Option (Option (List ℕ))
rules found = rules_or_none (of found (codes "--rules"))

-- `--join-after SECONDS`, from 1 to 86,400, where rules are named; 30 where it is left out
abbrev pub join_after : List Setting → Option ℕ
join_after found =
    if may_stand (nat_lt 0 (length (of found (codes "--rules")))) (of found (codes "--join-after"))
    then number_or 30 1 86400 (of found (codes "--join-after")) else None

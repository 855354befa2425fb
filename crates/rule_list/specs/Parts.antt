-- A text that is read part by part.
use Rattle.std.specs.Prelude.{ℕ, List, [], Option, None, Some}
use Rattle.rule_list.specs.RuleTexts.{parts}

-- the parts that are left
abbrev pub parts_left : Option (List ℕ) → List (List ℕ)
parts_left None = []
parts_left (Some text) = parts text

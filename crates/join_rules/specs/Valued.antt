-- The values that rules give to the conflict keys of two states.
use Rattle.std.specs.Prelude.{ℕ, List, [], ◌∷◌, find, filter_map, Option, Some, None, is_none}
use Rattle.std.specs.Option.{option_map}
use Rattle.tardis_base.specs.declared.ids.StateId.{StateId}
use Rattle.tardis_base.specs.declared.records.Record.{Record}
use Rattle.tardis_base.specs.declared.records.Write.{Write}
use Rattle.tardis_base.specs.Keys.{KeyWrite}
use Rattle.plain_dag.specs.Writers.{read}
use Rattle.plain_dag.specs.Forks.{fork_points}
use Rattle.rule_list.specs.declared.rules.Rule.{Rule}
use Rattle.rule_list.specs.declared.rules.PrefixRule.{PrefixRule}
use Rattle.rule_list.specs.Rules.{rule_for}
use Rattle.join_rules.specs.Values.{Base, Unknown, Absent, Is, Side, merged}

abbrev pub written_base : Option (StateId × Write) → Base
written_base None = Absent
written_base (Some version) = Is version.1

-- what both sides began with: the read of the key where they parted, if that is one state alone
abbrev pub base_at : List Record → List ℕ → List StateId → Base
base_at rs k (p ∷ []) = written_base (read rs k p)
base_at rs k _ = Unknown

-- the value of a rule, where both sides are there
abbrev pub merged_sides : Rule → Base → Option Side → Option Side → Option Write
merged_sides rule base (Some a) (Some b) = merged rule base a b
merged_sides rule base _ _ = None

-- the value that the rules give to the key over these two states
abbrev pub value_of : List PrefixRule → List Record → StateId → StateId → List ℕ → Option Write
value_of rules rs a b k = merged_sides (rule_for rules k) (base_at rs k (fork_points rs (a ∷ b ∷ []))) (read rs k a) (read rs k b)

-- the first of these keys that has no value
abbrev pub unmerged : (List ℕ → Option Write) → List (List ℕ) → Option (List ℕ)
unmerged value ks = find (λ k. is_none (value k)) ks

-- these keys, each with its value
abbrev pub values : (List ℕ → Option Write) → List (List ℕ) → List KeyWrite
values value ks = filter_map (λ k. option_map (λ w. (k, w)) (value k)) ks

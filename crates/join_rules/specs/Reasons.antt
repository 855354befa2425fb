-- Why rules don't settle two states.
use Rattle.std.specs.Prelude.{ℕ, Bool, ◌||◌, nat_lt, min, length, List, [], ◌∷◌, filter_map, Option, Some, None, is_none, if◌then◌else◌}
use Rattle.std.specs.Option.{option_map}
use Rattle.tardis_base.specs.declared.ids.StateId.{StateId}
use Rattle.tardis_base.specs.declared.records.Record.{Record}
use Rattle.tardis_base.specs.declared.records.Write.{Write}
use Rattle.tardis_base.specs.Sizes.{most_writes}
use Rattle.plain_dag.specs.Conflicts.{conflict_keys}
use Rattle.plain_dag.specs.Forks.{fork_points}
use Rattle.plain_dag.specs.Writers.{read}
use Rattle.rule_list.specs.declared.rules.Rule.{Rule}
use Rattle.rule_list.specs.declared.rules.Rule.TheVariants.{Last, Count, Set, Set3, Refuse}
use Rattle.rule_list.specs.declared.rules.PrefixRule.{PrefixRule}
use Rattle.rule_list.specs.Rules.{rule_for}
use Rattle.join_rules.specs.declared.reasons.NoValue.{NoValue}
use Rattle.join_rules.specs.declared.reasons.NoValue.TheVariants.{NoRule, NotANumber, NotASet, NoBase, OutOfRange, TooLong}
use Rattle.join_rules.specs.declared.open_forks.Reason.{Reason}
use Rattle.join_rules.specs.declared.open_forks.Reason.TheVariants.{TooWide, Key}
use Rattle.join_rules.specs.declared.open_forks.Unjoined.{Unjoined}
use Rattle.join_rules.specs.Values.{Base, Unknown, Absent, Is, Side, number_of, set_of}
use Rattle.join_rules.specs.Valued.{base_at, value_of, unmerged}
use Rattle.join_rules.specs.Joints.{last_pairs}

-- ===== A key

abbrev pub is_no_number : Write → Bool
is_no_number write = is_none (number_of write)

abbrev pub is_no_set : Write → Bool
is_no_set write = is_none (set_of write)

-- the base isn't known; or it isn't in the rule's form; or else it is this
abbrev pub by_base : (is_unfit : Write → Bool) (unfit other : NoValue) → Base → NoValue
by_base is_unfit unfit other Unknown = NoBase
by_base is_unfit unfit other Absent = other
by_base is_unfit unfit other (Is write) = if is_unfit write then unfit else other

-- why two sides have no sum
abbrev pub no_sum : Base → Write → Write → NoValue
no_sum base a b = if is_no_number a || is_no_number b then NotANumber else by_base is_no_number NotANumber OutOfRange base

-- why they have no union
abbrev pub no_union : Write → Write → NoValue
no_union a b = if is_no_set a || is_no_set b then NotASet else TooLong

-- why they have none since the base
abbrev pub no_changes : Base → Write → Write → NoValue
no_changes base a b = if is_no_set a || is_no_set b then NotASet else by_base is_no_set NotASet TooLong base

-- Why the rule gives no value to a key with this base and these sides, where it gives none. `last` always gives one.
abbrev pub cause : Rule → Base → Side → Side → NoValue
cause Last base a b = NoRule
cause Count base a b = no_sum base a.1 b.1
cause Set base a b = no_union a.1 b.1
cause Set3 base a b = no_changes base a.1 b.1
cause Refuse base a b = NoRule

-- so where both sides are there, as of each conflict key they are; else no rule speaks of it
abbrev pub cause_over : Rule → Base → Option Side → Option Side → NoValue
cause_over rule base (Some a) (Some b) = cause rule base a b
cause_over rule base _ _ = NoRule

-- why the rules give the key no value over these two states
abbrev pub cause_of : List PrefixRule → List Record → StateId → StateId → List ℕ → NoValue
cause_of rules rs a b k = cause_over (rule_for rules k) (base_at rs k (fork_points rs (a ∷ b ∷ []))) (read rs k a) (read rs k b)

-- ===== Two states

-- why the rules don't settle the two: they have more than 64 conflict keys, or the least that has no value; none where they do
abbrev pub obstacle : List PrefixRule → List Record → StateId → StateId → Option Reason
obstacle rules rs a b =
    let ks = conflict_keys rs (a ∷ b ∷ []) in
    let least = option_map (λ k. Key k (cause_of rules rs a b k)) (unmerged (value_of rules rs a b) ks) in
    if nat_lt most_writes (length ks) then Some (TooWide (min (length ks) 4294967295)) else least

-- the two with that
abbrev pub unjoined_of : List PrefixRule → List Record → StateId × StateId → Option Unjoined
unjoined_of rules rs two = option_map (λ why. record { first = two.0; second = two.1; reason = why }) (obstacle rules rs two.0 two.1)

-- each two of the 16 leaves that arrived last that the rules don't settle, in the order in which they are looked at
abbrev pub unjoined_pairs : List PrefixRule → List Record → List Unjoined
unjoined_pairs rules rs = filter_map (unjoined_of rules rs) (last_pairs rs)

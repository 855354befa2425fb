-- Which two leaves are joined by rules, and by which site.
use Rattle.std.specs.Prelude.{ℕ, Bool, not, ◌==◌, ◌||◌, nat_lt, nat_le, min, max, length, List, [], ◌∷◌, ◌++◌, ◌-◌, map, filter, drop}
use Rattle.std.specs.Prelude.{Option, Some, None, is_some, if◌then◌else◌}
use Rattle.std.specs.Option.{option_map, option_or}
use Rattle.tardis_base.specs.declared.ids.StateId.{StateId}
use Rattle.tardis_base.specs.declared.records.Record.{Record}
use Rattle.tardis_base.specs.declared.records.Write.{Write}
use Rattle.tardis_base.specs.Sizes.{most_writes}
use Rattle.tardis_base.specs.Ids.{is_before}
use Rattle.tardis_base.specs.Keys.{KeyWrite}
use Rattle.plain_dag.specs.Conflicts.{conflict_keys}
use Rattle.plain_dag.specs.Forks.{leaves}
use Rattle.rule_list.specs.declared.rules.PrefixRule.{PrefixRule}
use Rattle.join_rules.specs.declared.joints.TheConstants.{MOST_LEAVES}
use Rattle.join_rules.specs.declared.joints.Joint.{Joint}
use Rattle.join_rules.specs.Valued.{value_of, unmerged, values}

-- these keys with their values, if each has one
abbrev pub all_values : (List ℕ → Option Write) → List (List ℕ) → Option (List KeyWrite)
all_values value ks = elim (unmerged value ks) [ Some k ↦ None | None ↦ Some (values value ks) ]

-- what the rules write where the two states are joined: a value to each of their conflict keys, of which there are at most 64
abbrev pub settled : List PrefixRule → List Record → StateId → StateId → Option (List KeyWrite)
settled rules rs a b =
    let ks = conflict_keys rs (a ∷ b ∷ []) in
    if nat_lt most_writes (length ks) then None else all_values (value_of rules rs a b) ks

-- two states, the lesser id first
abbrev pub in_order : StateId → StateId → StateId × StateId
in_order x y = if is_before x y then (x, y) else (y, x)

-- each two of these: the first with each behind it, then the second, and so on
abbrev pub pairs : List StateId → List (StateId × StateId)
pairs [] = []
pairs (x ∷ xs) = map (in_order x) xs ++ pairs xs

-- the two, with what the rules write where they are joined
abbrev pub joint_of : List PrefixRule → List Record → StateId × StateId → Option Joint
joint_of rules rs two = option_map (λ ws. record { first = two.0; second = two.1; writes = ws }) (settled rules rs two.0 two.1)

-- the first of these that the rules settle
abbrev pub first_of : List PrefixRule → List Record → List (StateId × StateId) → Option Joint
first_of rules rs [] = None
first_of rules rs (two ∷ later) =
    let other = first_of rules rs later in
    option_or (joint_of rules rs two) other

-- the last 16 of these, or all
abbrev pub last_ones : List StateId → List StateId
last_ones xs = drop (length xs - MOST_LEAVES) xs

-- ===== By which site

-- How long a site leaves two leaves to others. Where it made the leaf with the lesser site number it joins them at once; it waits where it
-- made the other one, or where one other site made both; and all others wait twice as long.
abbrev pub rank : (own : ℕ) → StateId → StateId → ℕ
rank own x y =
    if own == min x.site y.site then 0 else
    if own == max x.site y.site || x.site == y.site then 1 else 2

abbrev pub joins_at_once : (own : ℕ) → StateId → StateId → Bool
joins_at_once own x y = rank own x y == 0

-- its rank for the two is at most its patience
abbrev pub is_within : (own patience : ℕ) → StateId × StateId → Bool
is_within own patience two = nat_le (rank own two.0 two.1) patience

-- each two of the 16 leaves that arrived last
abbrev pub last_pairs : List Record → List (StateId × StateId)
last_pairs rs = pairs (last_ones (leaves rs))

-- the first two of these leaves that the rules settle, of those that a site with this number and this patience may join
abbrev pub first_joint : List PrefixRule → (own patience : ℕ) → List Record → Option Joint
first_joint rules own patience rs = first_of rules rs (filter (is_within own patience) (last_pairs rs))

-- the rules settle two of these leaves of those that it leaves to others
abbrev pub is_for_others : List PrefixRule → (own patience : ℕ) → List Record → Bool
is_for_others rules own patience rs = is_some (first_of rules rs (filter (λ two. not (is_within own patience two)) (last_pairs rs)))

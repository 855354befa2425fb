-- What the search for two leaves answers.
use Rattle.std.specs.Prelude.{◌≡◌, ℕ, Bool, not, List, [], ◌∷◌, ◌&&◌, Option, Some, None, map, filter, Result, IfOk, IfSome, IsTrue, if◌then◌else◌}
use Rattle.tardis_base.specs.declared.faults.NoMemory.{NoMemory as OutOfMemory}
use Rattle.tardis_base.specs.declared.ids.StateId.{StateId}
use Rattle.tardis_base.specs.declared.ids.Slot.{Slot}
use Rattle.tardis_base.specs.declared.records.Record.{Record}
use Rattle.tardis_base.specs.Ids.{is_among, is_before}
use Rattle.tardis_base.specs.Valid.{are_parents, are_writes}
use Rattle.plain_dag.specs.States.{is_known}
use Rattle.plain_dag.specs.Forks.{is_leaf, leaves}
use Rattle.state_dag.specs.Table.{id_at}
use Rattle.record_store.specs.Store.{Store}
use Rattle.record_store.specs.Stands.{StoreStands}
use Rattle.plain_site.specs.Site.{Site}
use Rattle.plain_site.specs.Sound.{IsSound}
use Rattle.rule_list.specs.declared.rules.PrefixRule.{PrefixRule}
use Rattle.join_rules.specs.declared.joints.Joint.{Joint}
use Rattle.join_rules.specs.declared.ranks.Turn.{Turn}
use Rattle.join_rules.specs.Joints.{in_order, joint_of, first_of, is_within, last_pairs, first_joint, is_for_others}

-- ===== Leaves

-- a known leaf
pub record IsKnownLeaf (rs : List Record) (x : StateId) : Type 0 where
  pub known : IsTrue (is_known rs x)
  pub leaf : IsTrue (is_leaf rs x)

-- two leaves, the lesser id first
pub record TwoLeaves (rs : List Record) (x y : StateId) : Type 0 where
  pub first : IsKnownLeaf rs x
  pub second : IsKnownLeaf rs y
  pub differ : x ≡ y → ⊥
  pub before : IsTrue (is_before x y)

-- two different leaves
pub record DifferentLeaves (rs : List Record) (x y : StateId) : Type 0 where
  pub first : IsTrue (is_among x (leaves rs))
  pub second : IsTrue (is_among y (leaves rs))
  pub differ : x ≡ y → ⊥

-- ===== Joints

-- the states may be parents of one record, which may write this
abbrev pub MayBeJoined : Joint → Type 0
MayBeJoined joint = IsTrue (are_parents (joint.first ∷ joint.second ∷ []) && are_writes joint.writes)

-- this is the joint, which may be one of a record
abbrev pub IsJoint : Option Joint → Option Joint → Type 0
IsJoint wanted found = (found ≡ wanted) × IfSome found MayBeJoined

-- of the two leaves in these slots, of which the first has the lesser id
abbrev pub JoinsInOrder : Store → List PrefixRule → Slot → Slot → Result (Option Joint) OutOfMemory → Type 0
JoinsInOrder store rules a b result =
    (site : Site) → StoreStands store site.dag site.collected → IsSound site → (x y : StateId) → id_at store.table a ≡ Some x → id_at store.table b ≡ Some y →
    TwoLeaves site.dag x y → IfOk result (IsJoint (joint_of rules site.dag (x, y)))

-- the search looks at these two
abbrev pub is_looked_at : Turn → StateId × StateId → Bool
is_looked_at turn two = if turn.is_own then is_within turn.own turn.patience two else not (is_within turn.own turn.patience two)

-- the two, where it looks at them
abbrev pub joint_looked_at : Turn → List PrefixRule → List Record → StateId × StateId → Option Joint
joint_looked_at turn rules rs two = if is_looked_at turn two then joint_of rules rs two else None

-- the first of these at which it looks
abbrev pub first_looked_at : Turn → List PrefixRule → List Record → List (StateId × StateId) → Option Joint
first_looked_at turn rules rs twos = first_of rules rs (filter (is_looked_at turn) twos)

-- so of the two leaves in these slots, of which the first has the lesser id
abbrev pub JoinsLookedAt : Store → List PrefixRule → Turn → Slot → Slot → Result (Option Joint) OutOfMemory → Type 0
JoinsLookedAt store rules turn a b result =
    (site : Site) → StoreStands store site.dag site.collected → IsSound site → (x y : StateId) → id_at store.table a ≡ Some x → id_at store.table b ≡ Some y →
    TwoLeaves site.dag x y → IfOk result (IsJoint (joint_looked_at turn rules site.dag (x, y)))

-- of the two leaves in these slots
abbrev pub JoinsTwo : Store → List PrefixRule → Turn → Slot → Slot → Result (Option Joint) OutOfMemory → Type 0
JoinsTwo store rules turn a b result =
    (site : Site) → StoreStands store site.dag site.collected → IsSound site → (x y : StateId) → id_at store.table a ≡ Some x → id_at store.table b ≡ Some y →
    DifferentLeaves site.dag x y → IfOk result (IsJoint (joint_looked_at turn rules site.dag (in_order x y)))

-- of the leaf in this slot and the first of these others with which it is looked at and rules settle it
abbrev pub FindsWith : Store → List PrefixRule → Turn → Slot → List Slot → Result (Option Joint) OutOfMemory → Type 0
FindsWith store rules turn leaf others result =
    (site : Site) → StoreStands store site.dag site.collected → IsSound site → (x : StateId) (ys : List StateId) → id_at store.table leaf ≡ Some x →
    map (id_at store.table) others ≡ map (λ y. Some y) ys → ((y : StateId) → IsTrue (is_among y ys) → DifferentLeaves site.dag x y) →
    IfOk result (IsJoint (first_looked_at turn rules site.dag (map (in_order x) ys)))

-- the first joint of those at which it looks, of a sound site's leaves
abbrev pub FindsAmong : Store → List PrefixRule → Turn → Result (Option Joint) OutOfMemory → Type 0
FindsAmong store rules turn result =
    (site : Site) → StoreStands store site.dag site.collected → IsSound site →
    IfOk result (IsJoint (first_looked_at turn rules site.dag (last_pairs site.dag)))

-- the first joint of a sound site's leaves
abbrev pub FindsFirst : Store → List PrefixRule → (own patience : ℕ) → Result (Option Joint) OutOfMemory → Type 0
FindsFirst store rules own patience result =
    (site : Site) → StoreStands store site.dag site.collected → IsSound site → IfOk result (IsJoint (first_joint rules own patience site.dag))

-- whether there is one for others
abbrev pub FindsForOthers : Store → List PrefixRule → (own patience : ℕ) → Result Bool OutOfMemory → Type 0
FindsForOthers store rules own patience result =
    (site : Site) → StoreStands store site.dag site.collected → IsSound site → IfOk result (λ found. found ≡ is_for_others rules own patience site.dag)

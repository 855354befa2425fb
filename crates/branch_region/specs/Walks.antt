-- How far the walk up from several states has come: those that wait arrived before the bound, and those that arrived at it
-- or later are noted.
use Rattle.std.specs.Prelude.{◌≡◌, ℕ, ◌<◌, ◌≤◌, ◌+◌, ◌⊎◌, Bool, ◌&&◌, nat_le, nat_lt, List, length, reverse, map, filter, Option, Some, IsTrue}
use Rattle.std.specs.List.{list_all}
use Rattle.std.specs.Ordering.{nat_cmp}
use Rattle.std.specs.BTreeMap.{BTreeMap, get}
use Rattle.tardis_base.specs.declared.ids.StateId.{StateId}
use Rattle.tardis_base.specs.declared.ids.Slot.{Slot}
use Rattle.tardis_base.specs.declared.records.Record.{Record}
use Rattle.tardis_base.specs.Ids.{is_among}
use Rattle.plain_dag.specs.States.{parents_of, arrival}
use Rattle.plain_dag.specs.Above.{is_above}
use Rattle.plain_dag.specs.Collection.{is_kept, kept_states}
use Rattle.state_dag.specs.Table.{Table, id_at, is_slot}
use Rattle.branch_region.specs.Regions.{is_above_part, is_last_shared}
use Rattle.branch_region.specs.declared.walks.Walk.{Walk}
use Rattle.branch_region.specs.declared.walks.Step.{Step}
use Rattle.branch_region.specs.declared.walks.Step.TheVariants.{Noted, Over, Behind}

-- the state passes, and arrived as the bound says or later
abbrev pub is_since : List Record → ℕ → (StateId → Bool) → StateId → Bool
is_since rs b passes x = passes x && nat_le b (arrival rs x)

-- the state passes, and arrived before the bound
abbrev pub is_until : List Record → ℕ → (StateId → Bool) → StateId → Bool
is_until rs b passes x = passes x && nat_lt (arrival rs x) b

-- what waits, by arrival
abbrev pub Waiting : Type 0
Waiting = BTreeMap ℕ Slot

-- the slot that waits for this arrival
abbrev pub waits_at : Waiting → ℕ → Option Slot
waits_at w k = get nat_cmp w k

-- the state waits
abbrev pub Waits : Table → List Record → (ℕ → Option Slot) → StateId → Type 0
Waits table rs f x = (s : Slot) × (f (arrival rs x) ≡ Some s) × (id_at table s ≡ Some x)

-- what waits are slots
abbrev pub AreSlots : Table → (ℕ → Option Slot) → Type 0
AreSlots table f = (k : ℕ) (s : Slot) → f k ≡ Some s → IsTrue (is_slot table s)

-- the slot that waits for the arrival is that of a state that arrived then: one of these or a parent of a state apart
pub record IsWaiting (table : Table) (rs : List Record) (xs : List StateId) (k : ℕ) (s : Slot) : Type 0 where
  pub state : StateId
  pub named : id_at table s ≡ Some state
  pub arrived : arrival rs state ≡ k
  pub why : IsTrue (is_among state xs) ⊎ ((c : StateId) × IsTrue (is_above_part rs c xs) × IsTrue (is_among state (parents_of rs c)))

-- the slots, newest first, are those of the kept states that pass and arrived since the bound
abbrev pub AreSince : Table → List Record → List StateId → ℕ → (StateId → Bool) → List Slot → Type 0
AreSince table rs ks b passes newest = map (id_at table) (reverse newest) ≡ map (λ x. Some x) (filter (is_since rs b passes) (kept_states rs ks))

-- what arrived since the bound is noted
pub record IsNoted (table : Table) (rs : List Record) (ks xs : List StateId) (b : ℕ) (apart shared : List Slot) : Type 0 where
  pub apart_are : AreSince table rs ks b (λ x. is_above_part rs x xs) apart
  pub shared_are : AreSince table rs ks b (is_last_shared rs xs) shared

-- each state that is not noted yet is reached from one that waits, and the parents of those noted apart are kept
pub record IsWalk (table : Table) (rs : List Record) (ks xs : List StateId) (n b : ℕ) (f : ℕ → Option Slot) (apart shared : List Slot) : Type 0 where
  pub noted : IsNoted table rs ks xs b apart shared
  pub waiting : (k : ℕ) (s : Slot) → f k ≡ Some s → (k < b) × IsWaiting table rs xs k s
  pub starts : (x : StateId) → IsTrue (is_among x xs) → arrival rs x < b → Waits table rs f x
  pub covers : (x : StateId) → IsTrue (is_kept rs ks x) → IsTrue (is_above_part rs x xs) → arrival rs x < b → (y : StateId) × Waits table rs f y
      × IsTrue (is_above rs x y)
  pub parents : (x p : StateId) → IsTrue (is_kept rs ks x) → IsTrue (is_above_part rs x xs) → b ≤ arrival rs x → IsTrue (is_among p (parents_of rs x))
      → IsTrue (is_kept rs ks p) × (arrival rs p < b → Waits table rs f p)
  pub many : n ≤ length (filter (λ x. nat_le b (arrival rs x)) (kept_states rs ks))

-- so it is with what a walk holds
abbrev pub IsWalkAt : Table → List Record → List StateId → List StateId → ℕ → ℕ → Walk → Type 0
IsWalkAt table rs ks xs n b walk = IsWalk table rs ks xs n b (waits_at walk.waiting) walk.apart.items walk.shared.items

abbrev pub IsNotedAt : Table → List Record → List StateId → List StateId → ℕ → Walk → Type 0
IsNotedAt table rs ks xs b walk = IsNoted table rs ks xs b walk.apart.items walk.shared.items

-- what a walk holds are slots
pub record HasSlots (table : Table) (walk : Walk) : Type 0 where
  pub waiting : AreSlots table (waits_at walk.waiting)
  pub apart : IsTrue (list_all (is_slot table) walk.apart.items)
  pub shared : IsTrue (list_all (is_slot table) walk.shared.items)

-- after a step all is noted, or one state more, or what arrived since the one behind which the walk ends
abbrev pub StepsTo : Table → List Record → List StateId → List StateId → ℕ → Walk → Step → Type 0
StepsTo table rs ks xs n walk Over = IsNotedAt table rs ks xs 0 walk
StepsTo table rs ks xs n walk Noted = (b : ℕ) × IsWalkAt table rs ks xs (n + 1) b walk
StepsTo table rs ks xs n walk (Behind a) = IsNotedAt table rs ks xs a walk

-- these states are kept and wait, besides what waited
pub record HasThese (table : Table) (rs : List Record) (ks ps : List StateId) (f g : ℕ → Option Slot) : Type 0 where
  pub stay : (y : StateId) → Waits table rs f y → Waits table rs g y
  pub come : (p : StateId) → IsTrue (is_among p ps) → IsTrue (is_kept rs ks p) × Waits table rs g p
  pub only : (k : ℕ) (s : Slot) → g k ≡ Some s → (f k ≡ Some s) ⊎ ((p : StateId) × (id_at table s ≡ Some p) × (arrival rs p ≡ k) × IsTrue (is_among p ps))

-- these states wait, and no other
pub record AreWaiting (table : Table) (rs : List Record) (xs : List StateId) (f : ℕ → Option Slot) : Type 0 where
  pub all : (x : StateId) → IsTrue (is_among x xs) → Waits table rs f x
  pub only : (k : ℕ) (s : Slot) → f k ≡ Some s → (x : StateId) × (id_at table s ≡ Some x) × (arrival rs x ≡ k) × IsTrue (is_among x xs)

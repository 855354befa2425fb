-- What the table of states keeps.
use Rattle.std.specs.Prelude.{ℕ, Bool, true, false, ◌==◌, ◌&&◌, List, [], ◌∷◌, find, Option, Some, None, is_some, nat_le, nat_lt, map}
use Rattle.std.specs.Option.{option_map, option_map_or, option_and_then}
use Rattle.tardis_base.specs.declared.ids.StateId.{StateId}
use Rattle.tardis_base.specs.declared.ids.Slot.{Slot}
use Rattle.tardis_base.specs.declared.records.Limits.{Limits}
use Rattle.tardis_base.specs.Ids.{is_among}
use Rattle.fork_path.specs.Pairs.{has_pairs}

-- of one kept state: its slot, its id, how many states had arrived before it, its parents, all its children, the slots in
-- which these stand, and the branches of kept forks that lead to it, each as the fork's slot and the branch's number
pub record Entry : Type 0 where
  pub slot : Slot
  pub id : StateId
  pub arrival : ℕ
  pub parents : List StateId
  pub children : List StateId
  pub stand_ins : List Slot
  pub path : List (ℕ × ℕ)

-- the limits; how many states of each site there are; how many in all; the kept states in arrival order
pub record Table : Type 0 where
  pub limits : Limits
  pub counts : List ℕ
  pub known : ℕ
  pub entries : List Entry

-- the entry at the slot
abbrev pub entry_at : Table → Slot → Option Entry
entry_at table slot = find (λ e. e.slot.0 == slot.0) table.entries

-- which state is kept at the slot
abbrev pub id_at : Table → Slot → Option StateId
id_at table slot = option_map (λ e. e.id) (entry_at table slot)

-- a state is kept at the slot
abbrev pub is_slot : Table → Slot → Bool
is_slot table slot = is_some (entry_at table slot)

-- the parents of the state at the slot, where one is kept there
abbrev pub parents_at : Table → Slot → Option (List StateId)
parents_at table slot = option_map (λ e. e.parents) (entry_at table slot)

-- the only one of these
abbrev pub only_of : List StateId → Option StateId
only_of [] = None
only_of (x ∷ []) = Some x
only_of (x ∷ y ∷ ys) = None

-- the parent of the state at the slot, where it has exactly one
abbrev pub only_parent_at : Table → Slot → Option StateId
only_parent_at table slot = option_and_then only_of (parents_at table slot)

-- the slots in which the children of the state at the slot stand
abbrev pub child_slots_at : Table → Slot → List Slot
child_slots_at table slot = option_map_or (λ e. e.stand_ins) (entry_at table slot) []

-- a state of this id is kept in the table
abbrev pub is_listed : Table → StateId → Bool
is_listed table x = is_among x (map (λ e. e.id) table.entries)

-- each arrived before the next
abbrev pub arrive_in_order : List Entry → Bool
arrive_in_order [] = true
arrive_in_order (e ∷ []) = true
arrive_in_order (e ∷ f ∷ es) = nat_lt e.arrival f.arrival && arrive_in_order (f ∷ es)

-- a state is kept at the slot, and the entries stand in arrival order
abbrev pub is_kept_at : Table → Slot → Bool
is_kept_at table slot = is_slot table slot && arrive_in_order table.entries

-- how many states had arrived before that at the slot
abbrev pub arrival_at : Table → Slot → ℕ
arrival_at table slot = option_map_or (λ e. e.arrival) (entry_at table slot) 0

-- the one arrived no later than the other, and each branch that was taken to it was taken to the other
abbrev pub is_entry_above : Entry → Entry → Bool
is_entry_above a b = nat_le a.arrival b.arrival && has_pairs b.path a.path

-- so it is with the entries at these slots
abbrev pub is_slot_above : Table → Slot → Slot → Bool
is_slot_above table a b = option_map_or (λ e. option_map_or (λ f. is_entry_above e f) (entry_at table b) false) (entry_at table a) false

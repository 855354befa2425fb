-- What marks by slot number say of several states.
use Rattle.std.specs.Prelude.{◌≡◌, ℕ, ◌<◌, Bool, false, ◌&&◌, not, List, slice_index_or, IsTrue}
use Rattle.std.specs.List.{list_any}
use Rattle.tardis_base.specs.declared.ids.Slot.{Slot}
use Rattle.state_dag.specs.Table.{Table, is_slot, is_slot_above}
use Rattle.branch_region.specs.Slots.{is_slot_above_all}
use Rattle.branch_region.specs.declared.marks.Marks.{Marks}

-- the slot is marked; one without a mark is not
abbrev pub is_marked : List Bool → Slot → Bool
is_marked marks s = slice_index_or marks s.0 false

-- each slot of a state has a smaller number than this
abbrev pub HasNumbersBelow : Table → ℕ → Type 0
HasNumbersBelow table n = (s : Slot) → IsTrue (is_slot table s) → s.0 < n

-- the slots of the states at or above that at the slot are marked, and no other slot of a state
abbrev pub AreAbove : Table → Slot → List Bool → Type 0
AreAbove table a marks = (s : Slot) → IsTrue (is_slot table s) → is_marked marks s ≡ is_slot_above table s a

-- by slot, the state is at or above one of these and not at or above all
abbrev pub is_part_marked : Marks → Slot → Bool
is_part_marked marks s = is_marked marks.one.items s && not (is_marked marks.all.items s)

-- the slots of the states at or above one of these are marked so, and those of the states at or above all
pub record AreMarks (table : Table) (states : List Slot) (marks : Marks) : Type 0 where
  pub one_is : (s : Slot) → IsTrue (is_slot table s) → is_marked marks.one.items s ≡ list_any (is_slot_above table s) states
  pub all_is : (s : Slot) → IsTrue (is_slot table s) → is_marked marks.all.items s ≡ is_slot_above_all table s states

-- How the slots of ids stand in memory.
use Rattle.std.specs.Prelude.{ℕ, ◌==◌, List, [], ◌∷◌, find, Option, nat_lt, IsTrue, slice_get}
use Rattle.std.specs.List.{list_all}
use Rattle.std.specs.Option.{option_map, option_and_then}
use Rattle.tardis_base.specs.declared.ids.StateId.{StateId}
use Rattle.tardis_base.specs.declared.ids.Slot.{Slot}
use Rattle.state_dag.specs.declared.id_slots.NumberedSlot.{NumberedSlot}

-- the slot of the state of this number, among those of one site
abbrev pub slot_of_number : List NumberedSlot → ℕ → Option Slot
slot_of_number entries n = option_map (λ e. e.slot) (find (λ e. e.sequence == n) entries)

-- the slot of the state, among those of each site
abbrev pub slot_of_state : List (List NumberedSlot) → StateId → Option Slot
slot_of_state sites x = option_and_then (λ entries. slot_of_number entries x.sequence) (slice_get sites x.site)

-- each number is lower than all behind it
abbrev pub NumbersRise : List NumberedSlot → Type 0
NumbersRise [] = Unit {0}
NumbersRise (e ∷ es) = IsTrue (list_all (λ f. nat_lt e.sequence f.sequence) es) × NumbersRise es

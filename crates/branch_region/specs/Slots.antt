-- What the slots of states tell.
use Rattle.std.specs.Prelude.{Bool, ◌&&◌, not, List}
use Rattle.std.specs.List.{list_any, list_all}
use Rattle.tardis_base.specs.declared.ids.Slot.{Slot}
use Rattle.state_dag.specs.Table.{Table, is_slot_above}

-- the state at the slot is at or above each of those at the others
abbrev pub is_slot_above_all : Table → Slot → List Slot → Bool
is_slot_above_all table a bs = list_all (is_slot_above table a) bs

-- the state at the slot is at or above one of those at the others, and not at or above all
abbrev pub is_slot_above_part : Table → Slot → List Slot → Bool
is_slot_above_part table a bs = list_any (is_slot_above table a) bs && not (is_slot_above_all table a bs)

-- The slots of a table in their order.
use Rattle.std.specs.Prelude.{ℕ, List}
use Rattle.tardis_base.specs.declared.ids.Slot.{Slot}

-- all slots, those of the kept states first; how many these are; for how many more there is room
pub record Slots : Type 0 where
  pub items : List Slot
  pub used : ℕ
  pub room : ℕ

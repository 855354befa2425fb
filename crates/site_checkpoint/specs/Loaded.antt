-- What a checkpoint in memory holds.
use Rattle.tardis_base.specs.declared.ids.Slot.{Slot}
use Rattle.record_store.specs.Store.{Store}

-- the store of what was told, and the slot in which the root stands
pub record Loaded : Type 0 where
  pub store : Store
  pub root : Slot

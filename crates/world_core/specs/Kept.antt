-- Items where they are kept.
use Rattle.tardis_base.specs.declared.records.Item.{Item}
use Rattle.tardis_base.specs.declared.records.Item.TheVariants.{State, Promise}
use Rattle.world_core.specs.declared.bags.Kept.{Kept}
use Rattle.world_core.specs.declared.bags.Kept.TheVariants.{State as StateAt, Promise as PromiseAt}

-- the item that is kept so
abbrev pub item_of : Kept → Item
item_of (StateAt r) = State r.now
item_of (PromiseAt c) = Promise c.now

-- When a checkpoint in memory stands for what was told.
use Rattle.std.specs.Prelude.{◌≡◌, Some}
use Rattle.tardis_base.specs.Ids.{root}
use Rattle.plain_dag.specs.Collection.{stand_in}
use Rattle.state_dag.specs.Table.{id_at}
use Rattle.record_store.specs.Stands.{StoreStands}
use Rattle.plain_checkpoint.specs.Checkpoints.{Told}
use Rattle.plain_checkpoint.specs.Laws.{IsToldWell}
use Rattle.site_checkpoint.specs.Loaded.{Loaded}

-- the store stands for the history, beside the collected states; the slot is that of the root's stand-in; and all this was told
-- well under the store's limits
pub record LoadedStands (loaded : Loaded) (t : Told) : Type 0 where
  pub store : StoreStands loaded.store t.dag t.collected
  pub root_at : id_at loaded.store.table loaded.root ≡ Some (stand_in t.dag t.collected root)
  pub well : IsToldWell loaded.store.table.limits t

-- it stands for something that was told
pub record StandsForTold (loaded : Loaded) : Type 0 where
  pub told : Told
  pub stands : LoadedStands loaded told

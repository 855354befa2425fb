-- Which bags there are.
use Rattle.std.specs.Prelude.{◌≤◌, List, length, IsTrue}
use Rattle.std.specs.List.{list_all}
use Rattle.tardis_base.specs.declared.records.Batch.{Batch}
use Rattle.wire_item.specs.Valid.{is_batch}
use Rattle.plain_world.specs.Worlds.{most_batches}

-- batches that can be spelled, and no more than there may be
pub record IsBag (bag : List Batch) : Type 0 where
  pub each : IsTrue (list_all is_batch bag)
  pub few : length bag ≤ most_batches

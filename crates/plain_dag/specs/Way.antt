-- At or above as the way along edges that it stands for.
use Rattle.std.specs.Prelude.{List, IsTrue}
use Rattle.tardis_base.specs.declared.ids.StateId.{StateId}
use Rattle.tardis_base.specs.declared.records.Record.{Record}
use Rattle.tardis_base.specs.Ids.{is_among}
use Rattle.plain_dag.specs.States.{parents_of}

-- x is at or above y: they are one, or x is at or above a parent of y
pub data AtOrAbove (rs : List Record) : StateId → StateId → Type 0 where
  same : (x : StateId) → AtOrAbove rs x x
  through : (x p y : StateId) → IsTrue (is_among p (parents_of rs y)) → AtOrAbove rs x p → AtOrAbove rs x y

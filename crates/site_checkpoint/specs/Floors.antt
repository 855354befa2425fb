-- Which states have to be at or above the floors.
use Rattle.std.specs.Prelude.{Bool, ◌||◌, List}
use Rattle.std.specs.List.{list_all}
use Rattle.tardis_base.specs.declared.ids.StateId.{StateId}
use Rattle.tardis_base.specs.declared.records.Record.{Record}
use Rattle.plain_dag.specs.States.{parents_of}
use Rattle.plain_dag.specs.Above.{is_above_all}
use Rattle.plain_dag.specs.Collection.{is_kept}

-- each parent of the state is kept, so that it stands in for no other; or it is at or above each of these
abbrev pub is_alone_or_above : List Record → List StateId → List StateId → StateId → Bool
is_alone_or_above rs ks xs s = list_all (is_kept rs ks) (parents_of rs s) || is_above_all rs s xs

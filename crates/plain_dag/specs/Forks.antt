-- Leaves and fork points.
use Rattle.std.specs.Prelude.{Bool, ◌&&◌, not, List, filter}
use Rattle.std.specs.List.{list_any}
use Rattle.tardis_base.specs.declared.ids.StateId.{StateId}
use Rattle.tardis_base.specs.declared.records.Record.{Record}
use Rattle.tardis_base.specs.Ids.{is_among}
use Rattle.plain_dag.specs.States.{arrived, children}
use Rattle.plain_dag.specs.Above.{is_above_all}

-- no record has the state as a parent
abbrev pub is_leaf : List Record → StateId → Bool
is_leaf rs x = not (list_any (λ r. is_among x r.parents) rs)

-- the leaves, in arrival order
abbrev pub leaves : List Record → List StateId
leaves rs = filter (is_leaf rs) (arrived rs)

-- x is at or above all of these, and no child of it is
abbrev pub is_fork_point : List Record → List StateId → StateId → Bool
is_fork_point rs ys x = is_above_all rs x ys && not (list_any (λ c. is_above_all rs c ys) (children rs x))

-- the fork points of these states, in arrival order
abbrev pub fork_points : List Record → List StateId → List StateId
fork_points rs ys = filter (is_fork_point rs ys) (arrived rs)

-- The region of several states.
use Rattle.std.specs.Prelude.{Bool, ◌&&◌, ◌||◌, not, List, filter}
use Rattle.std.specs.List.{list_any}
use Rattle.tardis_base.specs.declared.ids.StateId.{StateId}
use Rattle.tardis_base.specs.declared.records.Record.{Record}
use Rattle.tardis_base.specs.Ids.{is_among}
use Rattle.plain_dag.specs.States.{children}
use Rattle.plain_dag.specs.Above.{is_above, is_above_all}
use Rattle.plain_dag.specs.Collection.{kept_states}

-- the state is at or above one of these, and not at or above all of them
abbrev pub is_above_part : List Record → StateId → List StateId → Bool
is_above_part rs x ys = list_any (is_above rs x) ys && not (is_above_all rs x ys)

-- the kept states at or above some of these and not at or above all of them, in arrival order
abbrev pub apart_states : List Record → List StateId → List StateId → List StateId
apart_states rs ks xs = filter (λ x. is_above_part rs x xs) (kept_states rs ks)

-- x is at or above all of these, and is one of them or has a child that is at or above some and not all
abbrev pub is_last_shared : List Record → List StateId → StateId → Bool
is_last_shared rs xs x = is_above_all rs x xs && (is_among x xs || list_any (λ c. is_above_part rs c xs) (children rs x))

-- the kept ones of those, in arrival order
abbrev pub shared_states : List Record → List StateId → List StateId → List StateId
shared_states rs ks xs = filter (is_last_shared rs xs) (kept_states rs ks)

-- Where a transaction may begin.
use Rattle.std.specs.Prelude.{Bool, not, List, [], ◌∷◌, find, unwrap_or, Option}
use Rattle.tardis_base.specs.declared.ids.StateId.{StateId}
use Rattle.tardis_base.specs.declared.records.Record.{Record}
use Rattle.tardis_base.specs.declared.requests.Begin.{Begin}
use Rattle.tardis_base.specs.declared.requests.Begin.TheVariants.{Any, Ancestor, Parent, At}
use Rattle.tardis_base.specs.Ids.{root}
use Rattle.plain_dag.specs.States.{states, is_known}
use Rattle.plain_dag.specs.Above.{is_above, is_proper_ancestor}

-- the state isn't a proper ancestor of the ceiling
abbrev pub is_admitted : List Record → StateId → StateId → Bool
is_admitted rs ceiling x = not (is_proper_ancestor rs x ceiling)

-- the first of these states that is unknown
abbrev pub first_unknown : List Record → List StateId → Option StateId
first_unknown rs xs = find (λ x. not (is_known rs x)) xs

-- the first of these states that isn't admitted under the ceiling
abbrev pub first_below : List Record → StateId → List StateId → Option StateId
first_below rs ceiling xs = find (λ x. not (is_admitted rs ceiling x)) xs

-- the state that arrived last
abbrev pub last_arrived : List Record → StateId
last_arrived [] = root
last_arrived (r ∷ rs) = r.id

-- the last-arrived state that x is at or above
abbrev pub last_below : List Record → StateId → StateId
last_below rs x = unwrap_or (find (is_above rs x) (states rs)) x

-- where a transaction of a session with this last commit begins: Any at the state that arrived last, Ancestor at the
-- last-arrived state that the last commit is at or above, Parent at the last commit, At where it says
abbrev pub begin_state : List Record → StateId → Begin → StateId
begin_state rs last Any = last_arrived rs
begin_state rs last Ancestor = last_below rs last
begin_state rs last Parent = last
begin_state rs last (At x) = x

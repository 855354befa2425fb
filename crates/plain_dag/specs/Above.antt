-- At or above: x is at or above y when x is y, or x is at or above a parent of y.
use Rattle.std.specs.Prelude.{Bool, ◌&&◌, ◌||◌, not, List, [], ◌∷◌, find, Option, Some, None, is_none, if◌then◌else◌}
use Rattle.std.specs.List.{list_any, list_all}
use Rattle.tardis_base.specs.declared.ids.StateId.{StateId}
use Rattle.tardis_base.specs.declared.records.Record.{Record}
use Rattle.tardis_base.specs.Ids.{same_id}

-- where y is the newest state, x is y or at or above one of its parents; else it is as among the older states
abbrev pub is_above : List Record → StateId → StateId → Bool
is_above [] x y = same_id x y
is_above (r ∷ rs) x y =
    let through = list_any (is_above rs x) r.parents in
    let older = is_above rs x y in
    if same_id y r.id then same_id x y || through else older

-- x is at or above y and isn't y
abbrev pub is_proper_ancestor : List Record → StateId → StateId → Bool
is_proper_ancestor rs x y = is_above rs x y && not (same_id x y)

-- x is at or above each of these
abbrev pub is_above_all : List Record → StateId → List StateId → Bool
is_above_all rs x ys = list_all (is_above rs x) ys

-- one is at or above the other
abbrev pub are_comparable : List Record → StateId → StateId → Bool
are_comparable rs x y = is_above rs x y || is_above rs y x

-- the first two of these that are comparable, by the place of the one and then of the other
abbrev pub comparable_pair : List Record → List StateId → Option (StateId × StateId)
comparable_pair rs [] = None
comparable_pair rs (x ∷ ys) =
    let later = comparable_pair rs ys in
    elim (find (are_comparable rs x) ys) [ Some y ↦ Some (x, y) | None ↦ later ]

-- none of these is at or above another
abbrev pub are_apart : List Record → List StateId → Bool
are_apart rs xs = is_none (comparable_pair rs xs)

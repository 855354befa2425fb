-- The names of states.
use Rattle.std.specs.Prelude.{Bool, true, ◌==◌, ◌&&◌, ◌||◌, List, [], ◌∷◌, nat_lt}
use Rattle.std.specs.List.{list_any}
use Rattle.tardis_base.specs.declared.ids.StateId.{StateId}

-- the state from which all others descend
abbrev pub root : StateId
root = record { site = 0; sequence = 0 }

-- two ids name one state
abbrev pub same_id : StateId → StateId → Bool
same_id a b = a.site == b.site && a.sequence == b.sequence

-- the state is one of these
abbrev pub is_among : StateId → List StateId → Bool
is_among x ys = list_any (same_id x) ys

-- a stands before b, by site and then sequence
abbrev pub is_before : StateId → StateId → Bool
is_before a b = nat_lt a.site b.site || a.site == b.site && nat_lt a.sequence b.sequence

-- each stands before the next
abbrev pub are_ascending : List StateId → Bool
are_ascending [] = true
are_ascending (x ∷ []) = true
are_ascending (x ∷ y ∷ ys) = is_before x y && are_ascending (y ∷ ys)

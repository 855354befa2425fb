-- Worked rows: merges.
use Rattle.std.specs.Prelude.{flat_map, List, [], ◌∷◌, ◌++◌, codes}
use Rattle.std.specs.List.{range_with_len}
use Rattle.tardis_base.specs.declared.requests.Request.TheVariants.{Show, Abort, ForkPoints}
use Rattle.tardis_base.specs.declared.replies.Excess.TheVariants.{MergedStates}
use Rattle.tardis_base.specs.declared.replies.Refusal.TheVariants.{OpenConflict, WrongMode, ConflictKey, NotRead, Comparable, Unknown, TooMany}
use Rattle.tardis_base.specs.declared.replies.Reply.TheVariants.{Opened, Begun, Merging, Absent, Done, Committed, States, Shown, Refused}
use Rattle.plain_site.specs.RowWords.{Line, Talk, lone_site, ◌·◌, ◌asks◌=>◌, opens, begin_any, get, put, none, ser, commit, merge_leaves, merge, conflicts}
use Rattle.plain_site.specs.RowWords.{get_for, value, one_key}

-- two branches: 1.1 and 1.2 both write x, and 1.2 writes y
abbrev pub branched : List Line
branched =
    1 asks opens => Opened (0 · 0)
    ∷ 2 asks opens => Opened (0 · 0)
    ∷ 1 asks begin_any => Begun (0 · 0)
    -- begins before the first commit
    ∷ 2 asks begin_any => Begun (0 · 0)
    ∷ 1 asks put "x" "1" => Done
    ∷ 1 asks commit ser => Committed (1 · 1) (0 · 0 ∷ [])
    ∷ 2 asks get "x" => Absent
    ∷ 2 asks put "x" "2" => Done
    ∷ 2 asks put "y" "5" => Done
    ∷ 2 asks commit ser => Committed (1 · 2) (0 · 0 ∷ [])
    ∷ []

-- a merge shows the conflict, doesn't commit without a value for it, and joins the branches with one
abbrev pub joined : List Line
joined =
    branched
    ++ 1 asks merge_leaves => Merging (1 · 1 ∷ 1 · 2 ∷ [])
    ∷ 1 asks ForkPoints => States 1 (0 · 0 ∷ [])
    ∷ 1 asks conflicts => one_key "x"
    ∷ 1 asks commit none => Refused (OpenConflict (codes "x"))
    ∷ 1 asks commit ser => Refused WrongMode
    ∷ 1 asks get "x" => Refused (ConflictKey (codes "x"))
    ∷ 1 asks get "y" => value (1 · 2) "5"
    ∷ 1 asks get_for "x" (1 · 1) => value (1 · 1) "1"
    ∷ 1 asks get_for "x" (1 · 3) => Refused (NotRead (1 · 3))
    ∷ 1 asks put "x" "3" => Done
    ∷ 1 asks get "x" => value (0 · 0) "3"
    ∷ 1 asks commit none => Committed (1 · 3) (1 · 1 ∷ 1 · 2 ∷ [])
    ∷ 1 asks begin_any => Begun (1 · 3)
    ∷ 1 asks get "x" => value (1 · 3) "3"
    ∷ []

abbrev pub MergeJoinsBranches : Type 0
MergeJoinsBranches = Talk lone_site joined

-- two merges of the same branches have both of them as fork points
abbrev pub TwoMergesConflict : Type 0
TwoMergesConflict =
    Talk lone_site
    (branched
    -- both begin before either commits
    ++ 1 asks merge (1 · 1 ∷ 1 · 2 ∷ []) => Merging (1 · 1 ∷ 1 · 2 ∷ [])
    ∷ 2 asks merge (1 · 1 ∷ 1 · 2 ∷ []) => Merging (1 · 1 ∷ 1 · 2 ∷ [])
    ∷ 1 asks put "x" "3" => Done
    ∷ 2 asks put "x" "4" => Done
    ∷ 1 asks commit none => Committed (1 · 3) (1 · 1 ∷ 1 · 2 ∷ [])
    ∷ 2 asks commit none => Committed (1 · 4) (1 · 1 ∷ 1 · 2 ∷ [])
    ∷ 1 asks merge_leaves => Merging (1 · 3 ∷ 1 · 4 ∷ [])
    ∷ 1 asks ForkPoints => States 2 (1 · 1 ∷ 1 · 2 ∷ [])
    ∷ 1 asks conflicts => one_key "x"
    ∷ 0 asks Show (1 · 3) => Shown 3 [] ((0 · 0, 0) ∷ (0 · 0, 1) ∷ (1 · 1, 0) ∷ (1 · 2, 0) ∷ [])
    ∷ 0 asks Show (1 · 4) => Shown 4 [] ((0 · 0, 0) ∷ (0 · 0, 1) ∷ (1 · 1, 1) ∷ (1 · 2, 1) ∷ [])
    ∷ [])

-- states of a merge are known and apart
abbrev pub MergesNeedStatesApart : Type 0
MergesNeedStatesApart =
    Talk lone_site
    (joined
    ++ 1 asks Abort => Done
    ∷ 1 asks merge (1 · 1 ∷ 1 · 3 ∷ []) => Refused (Comparable (1 · 1) (1 · 3))
    ∷ 1 asks merge (1 · 3 ∷ 1 · 3 ∷ []) => Refused (Comparable (1 · 3) (1 · 3))
    ∷ 1 asks merge (1 · 1 ∷ 5 · 1 ∷ []) => Refused (Unknown (5 · 1))
    ∷ [])

-- nine branches are too many for one merge
abbrev pub NineLeavesAreTooMany : Type 0
NineLeavesAreTooMany =
    let nine = range_with_len 1 9 in
    Talk lone_site
    (flat_map (λ n. n asks opens => Opened (0 · 0) ∷ n asks begin_any => Begun (0 · 0) ∷ []) nine
    ++ flat_map (λ n. n asks get "x" => Absent ∷ n asks put "x" "1" => Done ∷ n asks commit ser => Committed (1 · n) (0 · 0 ∷ []) ∷ []) nine
    ++ 1 asks merge_leaves => Refused (TooMany MergedStates 9)
    ∷ [])

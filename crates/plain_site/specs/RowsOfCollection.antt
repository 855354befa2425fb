-- Worked rows: forks whose branches have grown together.
use Rattle.std.specs.Prelude.{List, [], ◌∷◌, ◌++◌}
use Rattle.tardis_base.specs.declared.requests.Request.TheVariants.{Abort, Ceiling, RaiseAuto, Tidy, Show, Stat as AskStat}
use Rattle.tardis_base.specs.declared.replies.Refusal.TheVariants.{Collected}
use Rattle.tardis_base.specs.declared.replies.Reply.TheVariants.{Opened, Begun, Merging, Absent, Done, Committed, Raised, Tidied, Stat, Shown, Refused}
use Rattle.plain_site.specs.RowWords.{Line, Talk, lone_site, ◌·◌, ◌asks◌=>◌, opens, begin_any, begin_at, get, put, none, ser, commit, merge, value}
use Rattle.plain_site.specs.RowsOfMerges.{joined}

-- 1.1 and 1.2 were joined in 1.3, and the floor is raised to it: first both branches go, and then the fork, since its children
-- both stand in at 1.3 now; its pairs leave the fork path of 1.3, and all reads stay
abbrev pub ForkThatGrewTogetherIsCollected : Type 0
ForkThatGrewTogetherIsCollected =
    Talk lone_site
    (joined
    ++ 1 asks Abort => Done
    ∷ 1 asks Ceiling (1 · 3) => Done
    ∷ 2 asks Ceiling (1 · 3) => Done
    ∷ 0 asks RaiseAuto => Raised (1 · 3) 1
    ∷ 0 asks Tidy 2 => Tidied 2
    ∷ 0 asks Show (0 · 0) => Shown 0 (1 · 1 ∷ 1 · 2 ∷ []) []
    ∷ 0 asks Show (1 · 3) => Shown 3 [] ((0 · 0, 0) ∷ (0 · 0, 1) ∷ [])
    ∷ 0 asks Tidy 255 => Tidied 1
    ∷ 0 asks Show (1 · 3) => Shown 3 [] []
    ∷ 0 asks AskStat => Stat 4 1 1 2 (record { count = 3; floor = 1 · 3; number = 1 } ∷ [])
    ∷ 1 asks begin_any => Begun (1 · 3)
    ∷ 1 asks get "y" => value (1 · 2) "5"
    ∷ [])

-- three branches of the root, 1.1, 1.2 and 1.3, of which the first two are joined in 1.4
abbrev pub three_branches : List Line
three_branches =
    1 asks opens => Opened (0 · 0)
    ∷ 1 asks begin_any => Begun (0 · 0)
    ∷ 1 asks put "a" "1" => Done
    ∷ 1 asks commit ser => Committed (1 · 1) (0 · 0 ∷ [])
    ∷ 1 asks begin_at (0 · 0) => Begun (0 · 0)
    ∷ 1 asks get "a" => Absent
    ∷ 1 asks put "b" "1" => Done
    ∷ 1 asks commit ser => Committed (1 · 2) (0 · 0 ∷ [])
    ∷ 1 asks begin_at (0 · 0) => Begun (0 · 0)
    ∷ 1 asks get "a" => Absent
    ∷ 1 asks get "b" => Absent
    ∷ 1 asks put "c" "1" => Done
    ∷ 1 asks commit ser => Committed (1 · 3) (0 · 0 ∷ [])
    ∷ 1 asks merge (1 · 1 ∷ 1 · 2 ∷ []) => Merging (1 · 1 ∷ 1 · 2 ∷ [])
    ∷ 1 asks commit none => Committed (1 · 4) (1 · 1 ∷ 1 · 2 ∷ [])
    ∷ []

-- the stand-ins of the root's children are 1.4, 1.4 and 1.3 once 1.1 and 1.2 are collected, so the root stays
abbrev pub ForkOfThreeStays : Type 0
ForkOfThreeStays =
    Talk lone_site
    (three_branches
    ++ 1 asks Ceiling (1 · 4) => Done
    ∷ 0 asks RaiseAuto => Raised (1 · 4) 1
    ∷ 0 asks Tidy 255 => Tidied 2
    ∷ 0 asks Show (1 · 2) => Refused (Collected (1 · 2))
    ∷ 0 asks Show (0 · 0) => Shown 0 (1 · 1 ∷ 1 · 2 ∷ 1 · 3 ∷ []) []
    ∷ 0 asks Show (1 · 4) => Shown 4 [] ((0 · 0, 0) ∷ (0 · 0, 1) ∷ [])
    ∷ [])

-- Worked rows: ceilings, floors and collection.
use Rattle.std.specs.Prelude.{List, [], ◌∷◌, ◌++◌}
use Rattle.tardis_base.specs.declared.requests.Request.TheVariants.{Ceiling, Raise, RaiseAuto, Tidy, Stat as AskStat, Show}
use Rattle.tardis_base.specs.declared.replies.Refusal.TheVariants.{Below, CeilingBack, TxnOpen, Held, FloorBack, Unknown, Collected}
use Rattle.tardis_base.specs.declared.replies.Reply.TheVariants.{Opened, Begun, Absent, Done, Committed, Raised, Tidied, Stat, Refused}
use Rattle.plain_site.specs.RowWords.{Line, Talk, lone_site, ◌·◌, ◌asks◌=>◌, opens, opens_following, begin_any, begin_ancestor, begin_parent, begin_at, get}
use Rattle.plain_site.specs.RowWords.{put, ser, commit, value}

-- session 1 commits x five times, and session 2 read it before
abbrev pub five_commits : List Line
five_commits =
    1 asks opens => Opened (0 · 0)
    ∷ 2 asks opens => Opened (0 · 0)
    ∷ 2 asks begin_any => Begun (0 · 0)
    ∷ 2 asks get "x" => Absent
    ∷ 2 asks put "x" "9" => Done
    ∷ 1 asks begin_any => Begun (0 · 0)
    ∷ 1 asks put "x" "1" => Done
    ∷ 1 asks commit ser => Committed (1 · 1) (0 · 0 ∷ [])
    ∷ 1 asks begin_any => Begun (1 · 1)
    ∷ 1 asks put "x" "2" => Done
    ∷ 1 asks commit ser => Committed (1 · 2) (1 · 1 ∷ [])
    ∷ 1 asks begin_any => Begun (1 · 2)
    ∷ 1 asks put "x" "3" => Done
    ∷ 1 asks commit ser => Committed (1 · 3) (1 · 2 ∷ [])
    ∷ 1 asks begin_any => Begun (1 · 3)
    ∷ 1 asks put "x" "4" => Done
    ∷ 1 asks commit ser => Committed (1 · 4) (1 · 3 ∷ [])
    ∷ 1 asks begin_any => Begun (1 · 4)
    ∷ 1 asks put "x" "5" => Done
    ∷ 1 asks commit ser => Committed (1 · 5) (1 · 4 ∷ [])
    ∷ 2 asks commit ser => Committed (1 · 6) (0 · 0 ∷ [])
    ∷ []

-- under a ceiling no transaction begins above it, and it goes down alone; a ceiling holds the floor
abbrev pub CeilingsHoldReadsAndFloors : Type 0
CeilingsHoldReadsAndFloors =
    Talk lone_site
    (five_commits
    ++ 1 asks Ceiling (1 · 5) => Done
    ∷ 1 asks begin_at (1 · 3) => Refused (Below (1 · 3) (1 · 5))
    ∷ 1 asks Ceiling (1 · 2) => Refused (CeilingBack (1 · 5))
    ∷ 1 asks begin_at (1 · 6) => Begun (1 · 6)
    ∷ 1 asks Ceiling (1 · 5) => Refused TxnOpen
    ∷ 0 asks Raise (1 · 5) => Refused (Held 2 (0 · 0))
    ∷ [])

-- the ceiling of a session that follows goes with its commits, the automatic floor with it; new sessions open under the floor
abbrev pub FloorsHoldTheSite : Type 0
FloorsHoldTheSite =
    Talk lone_site
    (1 asks opens_following => Opened (0 · 0)
    ∷ 1 asks begin_any => Begun (0 · 0)
    ∷ 1 asks put "x" "1" => Done
    ∷ 1 asks commit ser => Committed (1 · 1) (0 · 0 ∷ [])
    ∷ 0 asks RaiseAuto => Raised (1 · 1) 1
    ∷ 0 asks RaiseAuto => Raised (1 · 1) 2
    ∷ 2 asks opens => Opened (1 · 1)
    ∷ 2 asks begin_parent => Refused (Below (0 · 0) (1 · 1))
    ∷ 2 asks begin_ancestor => Begun (1 · 1)
    ∷ [])

-- two sessions commit in one chain, and the floor is raised to its end
abbrev pub raised_chain : List Line
raised_chain =
    1 asks opens => Opened (0 · 0)
    ∷ 2 asks opens => Opened (0 · 0)
    ∷ 1 asks begin_any => Begun (0 · 0)
    ∷ 1 asks put "x" "1" => Done
    ∷ 1 asks commit ser => Committed (1 · 1) (0 · 0 ∷ [])
    ∷ 1 asks begin_any => Begun (1 · 1)
    ∷ 1 asks put "y" "2" => Done
    ∷ 1 asks commit ser => Committed (1 · 2) (1 · 1 ∷ [])
    ∷ 2 asks begin_any => Begun (1 · 2)
    ∷ 2 asks put "z" "3" => Done
    ∷ 2 asks commit ser => Committed (1 · 3) (1 · 2 ∷ [])
    ∷ 1 asks begin_any => Begun (1 · 3)
    ∷ 1 asks put "x" "4" => Done
    ∷ 1 asks commit ser => Committed (1 · 4) (1 · 3 ∷ [])
    ∷ 1 asks begin_any => Begun (1 · 4)
    ∷ 1 asks put "w" "5" => Done
    ∷ 1 asks commit ser => Committed (1 · 5) (1 · 4 ∷ [])
    ∷ 1 asks Ceiling (1 · 5) => Done
    ∷ 0 asks Raise (1 · 5) => Refused (Held 2 (0 · 0))
    ∷ 2 asks Ceiling (1 · 5) => Done
    ∷ 0 asks RaiseAuto => Raised (1 · 5) 1
    ∷ []

-- a chain above the floor is collected, and all its reads stay
abbrev pub CollectionKeepsReads : Type 0
CollectionKeepsReads =
    Talk lone_site
    (raised_chain
    ++ 0 asks Tidy 2 => Tidied 2
    ∷ 0 asks Tidy 255 => Tidied 3
    ∷ 0 asks Tidy 1 => Tidied 0
    ∷ 0 asks AskStat => Stat 6 1 1 2 (record { count = 5; floor = 1 · 5; number = 1 } ∷ [])
    ∷ 1 asks begin_any => Begun (1 · 5)
    ∷ 1 asks get "x" => value (1 · 4) "4"
    ∷ 1 asks get "y" => value (1 · 2) "2"
    ∷ 0 asks Show (1 · 3) => Refused (Collected (1 · 3))
    ∷ 0 asks Show (1 · 9) => Refused (Unknown (1 · 9))
    ∷ 0 asks Raise (1 · 2) => Refused (FloorBack (1 · 5))
    ∷ 2 asks begin_parent => Refused (Below (1 · 3) (1 · 5))
    ∷ 2 asks begin_ancestor => Begun (1 · 5)
    ∷ [])

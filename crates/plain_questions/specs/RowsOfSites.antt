-- Worked rows: sessions, and the whole site.
use Rattle.std.specs.Prelude.{true, false, List, [], ◌∷◌, ◌++◌, map, flat_map, codes, Some, None}
use Rattle.std.specs.List.{range_with_len}
use Rattle.tardis_base.specs.declared.records.Item.TheVariants.{State}
use Rattle.tardis_base.specs.declared.records.Write.TheVariants.{Put}
use Rattle.tardis_base.specs.declared.requests.Request.TheVariants.{Ceiling, Close, Deliver}
use Rattle.tardis_base.specs.declared.replies.Reply.TheVariants.{Opened, Begun, Merging, Done, Closed, Committed, Applied}
use Rattle.plain_site.specs.Site.{opening}
use Rattle.plain_site.specs.RowWords.{Line, Talk, site_after, program_limits, lone_site, ◌·◌, ◌asks◌=>◌, opens, opens_following, begin_any, put, none, commit, merge}
use Rattle.plain_questions.specs.declared.questions.Question.TheVariants.{Record as RecordOf, Sessions, Site as TheSite}
use Rattle.plain_questions.specs.declared.questions.Answered.TheVariants.{Record as TheRecord, Sessions as TheSessions, Site as OfSite, ForkReads, Read, Refused}
use Rattle.plain_questions.specs.declared.questions.SessionLine.{SessionLine}
use Rattle.plain_questions.specs.declared.questions.Denial.TheVariants.{Unknown}
use Rattle.plain_questions.specs.RowsOfReads.{parted, collected}
use Rattle.plain_questions.specs.RowWords.{◌is_told◌, Tells, at, base, began_absent}

-- ===== Sessions

-- a following session makes 1.1, and another one lags behind
abbrev pub lagging : List Line
lagging =
    7 asks opens => Opened (0 · 0)
    ∷ 0 asks opens_following => Opened (0 · 0)
    ∷ 0 asks begin_any => Begun (0 · 0)
    ∷ 0 asks put "x" "1" => Done
    ∷ 0 asks commit none => Committed (1 · 1) (0 · 0 ∷ [])
    ∷ 7 asks begin_any => Begun (1 · 1)
    ∷ []

-- the session that lags holds the floor
abbrev pub LaggingSessionHoldsTheFloor : Type 0
LaggingSessionHoldsTheFloor =
    let following : SessionLine = record { number = 0; follow = true; ceiling = 1 · 1; last = 1 · 1; reads = []; holds = false } in
    let lags : SessionLine = record { number = 7; follow = false; ceiling = 0 · 0; last = 0 · 0; reads = 1 · 1 ∷ []; holds = true } in
    Talk lone_site lagging
    × Tells (site_after lone_site lagging)
    (Sessions None is_told TheSessions (0 · 0) 2 (following ∷ lags ∷ [])
    ∷ Sessions (Some 0) is_told TheSessions (0 · 0) 1 (lags ∷ [])
    ∷ Sessions (Some 6) is_told TheSessions (0 · 0) 1 (lags ∷ [])
    ∷ Sessions (Some 7) is_told TheSessions (0 · 0) 0 []
    ∷ [])

-- once it is closed the other one does
abbrev pub ClosedSessionHoldsNothing : Type 0
ClosedSessionHoldsNothing =
    let lines = lagging ++ 7 asks Close => Closed ∷ [] in
    let following : SessionLine = record { number = 0; follow = true; ceiling = 1 · 1; last = 1 · 1; reads = []; holds = true } in
    Talk lone_site lines × Tells (site_after lone_site lines) (Sessions None is_told TheSessions (1 · 1) 1 (following ∷ []) ∷ [])

-- sessions on two branches: the floor would stand at the fork, which no one of them holds
abbrev pub BranchesHoldTheFloor : Type 0
BranchesHoldTheFloor =
    let lines = parted ++ 1 asks Ceiling (1 · 2) => Done ∷ 2 asks Ceiling (1 · 3) => Done ∷ 1 asks merge (1 · 2 ∷ 1 · 3 ∷ []) => Merging (1 · 2 ∷ 1 · 3 ∷ []) ∷ [] in
    let first : SessionLine = record { number = 1; follow = false; ceiling = 1 · 2; last = 1 · 2; reads = 1 · 2 ∷ 1 · 3 ∷ []; holds = false } in
    let second : SessionLine = record { number = 2; follow = false; ceiling = 1 · 3; last = 1 · 3; reads = []; holds = false } in
    Tells (site_after lone_site lines) (Sessions None is_told TheSessions (1 · 1) 2 (first ∷ second ∷ []) ∷ [])

-- ===== Sites

abbrev pub SitesAreTold : Type 0
SitesAreTold =
    Tells lone_site (TheSite is_told OfSite 1 (program_limits 1) 1 1 1 ∷ Sessions None is_told TheSessions (0 · 0) 0 [] ∷ [])
    × Tells (site_after lone_site collected) (TheSite is_told OfSite 1 (program_limits 1) 1 4 2 ∷ [])

-- the third of sixteen sites, which is told a state of each other one
abbrev pub sixteen : List Line
sixteen =
    flat_map
    (λ n. 0 asks Deliver (State (record { id = n · 1; parents = 0 · 0 ∷ []; writes = (codes "x", Put (n ∷ [])) ∷ [] })) => Applied ∷ [])
    (1 ∷ 2 ∷ range_with_len 4 13)

abbrev pub SixteenSitesAreTold : Type 0
SixteenSitesAreTold =
    let third = opening (program_limits 16) 3 in
    Talk third sixteen
    × Tells (site_after third sixteen)
    (TheSite is_told OfSite 1 (program_limits 16) 3 16 16
    ∷ RecordOf (0 · 0) is_told TheRecord 0 [] [] (map (λ n. n · 1) (1 ∷ 2 ∷ range_with_len 4 13)) []
    ∷ RecordOf (16 · 1) is_told TheRecord 15 (0 · 0 ∷ []) (0 · 0 ∷ []) [] (codes "x" ∷ [])
    ∷ at (16 · 1) "x" is_told Read (Some (16 · 1, Put (16 ∷ [])))
    ∷ at (3 · 1) "x" is_told Refused (Unknown (3 · 1))
    ∷ base (1 · 1 ∷ 16 · 1 ∷ []) "x" is_told ForkReads (began_absent (0 · 0) ∷ [])
    ∷ [])

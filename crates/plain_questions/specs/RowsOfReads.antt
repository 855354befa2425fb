-- Worked rows: reads at a state, records, and where states parted.
use Rattle.std.specs.Prelude.{List, [], ◌∷◌, ◌++◌, codes, flat_map, map}
use Rattle.std.specs.List.{range_with_len}
use Rattle.tardis_base.specs.declared.requests.Request.TheVariants.{Abort, Ceiling, RaiseAuto, Tidy, Delete}
use Rattle.tardis_base.specs.declared.replies.Reply.TheVariants.{Opened, Begun, Merging, Absent, Done, Committed, Raised, Tidied}
use Rattle.plain_site.specs.RowWords.{Line, Talk, site_after, lone_site, ◌·◌, ◌asks◌=>◌, opens, begin_any, begin_at, get, put, none, ser, si, commit, merge}
use Rattle.plain_site.specs.RowsOfMerges.{branched, joined}
use Rattle.plain_questions.specs.declared.questions.Question.TheVariants.{Record as RecordOf}
use Rattle.plain_questions.specs.declared.questions.Denial.TheVariants.{Unknown, Collected, ForkPoints}
use Rattle.plain_questions.specs.declared.questions.Answered.TheVariants.{ForkReads, Record as TheRecord, Refused}
use Rattle.plain_questions.specs.RowWords.{◌is_told◌, Tells, at, base, keys, value, deleted, absent, these_keys, began_with, began_absent}

-- ===== Two branches

-- 1.1 writes d and x; below it 1.2 changes d, and 1.3 changes d and deletes x
abbrev pub parted : List Line
parted =
    1 asks opens => Opened (0 · 0)
    ∷ 1 asks begin_any => Begun (0 · 0)
    ∷ 1 asks put "d" "b" => Done
    ∷ 1 asks put "x" "1" => Done
    ∷ 1 asks commit ser => Committed (1 · 1) (0 · 0 ∷ [])
    ∷ 1 asks begin_any => Begun (1 · 1)
    ∷ 1 asks put "d" "bc" => Done
    ∷ 1 asks commit ser => Committed (1 · 2) (1 · 1 ∷ [])
    ∷ 2 asks opens => Opened (0 · 0)
    ∷ 2 asks begin_at (1 · 1) => Begun (1 · 1)
    ∷ 2 asks put "d" "ab" => Done
    ∷ 2 asks Delete (codes "x") => Done
    ∷ 2 asks commit si => Committed (1 · 3) (1 · 1 ∷ [])
    ∷ []

abbrev pub BranchesPart : Type 0
BranchesPart = Talk lone_site parted

-- each state is read as it is, whoever has a session
abbrev pub StatesAreRead : Type 0
StatesAreRead =
    Tells (site_after lone_site parted)
    (at (0 · 0) "d" is_told absent
    ∷ at (1 · 1) "d" is_told value (1 · 1) "b"
    ∷ at (1 · 2) "d" is_told value (1 · 2) "bc"
    ∷ at (1 · 2) "x" is_told value (1 · 1) "1"
    ∷ at (1 · 3) "d" is_told value (1 · 3) "ab"
    ∷ at (1 · 3) "x" is_told deleted (1 · 3)
    ∷ at (1 · 3) "y" is_told absent
    ∷ at (1 · 4) "d" is_told Refused (Unknown (1 · 4))
    ∷ [])

-- what both sides began with is read where they parted, in whatever order they are named; that of one state is read there, and
-- where one is above the other they part at the upper one
abbrev pub BaseIsReadWhereTheyParted : Type 0
BaseIsReadWhereTheyParted =
    Tells (site_after lone_site parted)
    (base (1 · 2 ∷ 1 · 3 ∷ []) "d" is_told ForkReads (began_with (1 · 1) (1 · 1) "b" ∷ [])
    ∷ base (1 · 3 ∷ 1 · 2 ∷ []) "x" is_told ForkReads (began_with (1 · 1) (1 · 1) "1" ∷ [])
    ∷ base (1 · 2 ∷ 1 · 3 ∷ []) "y" is_told ForkReads (began_absent (1 · 1) ∷ [])
    ∷ base (1 · 2 ∷ 1 · 0 ∷ 1 · 9 ∷ []) "d" is_told Refused (Unknown (1 · 0))
    ∷ base (1 · 2 ∷ []) "d" is_told ForkReads (began_with (1 · 2) (1 · 2) "bc" ∷ [])
    ∷ base (0 · 0 ∷ 1 · 2 ∷ []) "d" is_told ForkReads (began_absent (0 · 0) ∷ [])
    ∷ [])

-- records with their neighbours
abbrev pub RecordsAreTold : Type 0
RecordsAreTold =
    Tells (site_after lone_site parted)
    (RecordOf (0 · 0) is_told TheRecord 0 [] [] (1 · 1 ∷ []) []
    ∷ RecordOf (1 · 1) is_told TheRecord 1 (0 · 0 ∷ []) (0 · 0 ∷ []) (1 · 2 ∷ 1 · 3 ∷ []) (map codes ("d" ∷ "x" ∷ []))
    ∷ RecordOf (1 · 3) is_told TheRecord 3 (1 · 1 ∷ []) (1 · 1 ∷ []) [] (map codes ("d" ∷ "x" ∷ []))
    ∷ RecordOf (2 · 1) is_told Refused (Unknown (2 · 1))
    ∷ [])

-- ===== Several fork points

-- 1.3 and 1.4 both merge 1.1 and 1.2
abbrev pub crossed : List Line
crossed =
    branched
    ++ 1 asks merge (1 · 1 ∷ 1 · 2 ∷ []) => Merging (1 · 1 ∷ 1 · 2 ∷ [])
    ∷ 2 asks merge (1 · 1 ∷ 1 · 2 ∷ []) => Merging (1 · 1 ∷ 1 · 2 ∷ [])
    ∷ 1 asks put "x" "3" => Done
    ∷ 2 asks put "x" "4" => Done
    ∷ 1 asks commit none => Committed (1 · 3) (1 · 1 ∷ 1 · 2 ∷ [])
    ∷ 2 asks commit none => Committed (1 · 4) (1 · 1 ∷ 1 · 2 ∷ [])
    ∷ []

abbrev pub TwoForkPointsAreRead : Type 0
TwoForkPointsAreRead =
    Talk lone_site crossed
    × Tells (site_after lone_site crossed)
    (base (1 · 3 ∷ 1 · 4 ∷ []) "x" is_told ForkReads (began_with (1 · 1) (1 · 1) "1" ∷ began_with (1 · 2) (1 · 2) "2" ∷ [])
    ∷ base (1 · 3 ∷ 1 · 4 ∷ []) "y" is_told ForkReads (began_absent (1 · 1) ∷ began_with (1 · 2) (1 · 2) "5" ∷ [])
    ∷ [])

-- nine branches of the root; 1.10 and 1.11 both merge eight of them, and 1.12 and 1.13 these with the ninth
abbrev pub crossed_widely : List Line
crossed_widely =
    let nine = range_with_len 1 9 in
    let eight = map (λ n. 1 · n) (range_with_len 1 8) in
    flat_map (λ n. n asks opens => Opened (0 · 0) ∷ n asks begin_any => Begun (0 · 0) ∷ []) nine
    ++ flat_map (λ n. n asks get "x" => Absent ∷ n asks put "x" "1" => Done ∷ n asks commit ser => Committed (1 · n) (0 · 0 ∷ []) ∷ []) nine
    ++ 1 asks merge eight => Merging eight
    ∷ 2 asks merge eight => Merging eight
    ∷ 1 asks put "x" "2" => Done
    ∷ 2 asks put "x" "3" => Done
    ∷ 1 asks commit none => Committed (1 · 10) eight
    ∷ 2 asks commit none => Committed (1 · 11) eight
    ∷ 1 asks merge (1 · 9 ∷ 1 · 10 ∷ []) => Merging (1 · 9 ∷ 1 · 10 ∷ [])
    ∷ 2 asks merge (1 · 9 ∷ 1 · 11 ∷ []) => Merging (1 · 9 ∷ 1 · 11 ∷ [])
    ∷ 1 asks put "x" "4" => Done
    ∷ 2 asks put "x" "5" => Done
    ∷ 1 asks commit none => Committed (1 · 12) (1 · 9 ∷ 1 · 10 ∷ [])
    ∷ 2 asks commit none => Committed (1 · 13) (1 · 9 ∷ 1 · 11 ∷ [])
    ∷ []

-- eight fork points are read, and nine are too many
abbrev pub NineForkPointsAreTooMany : Type 0
NineForkPointsAreTooMany =
    Talk lone_site crossed_widely
    × Tells (site_after lone_site crossed_widely)
    (base (1 · 10 ∷ 1 · 11 ∷ []) "x" is_told ForkReads (map (λ n. began_with (1 · n) (1 · n) "1") (range_with_len 1 8))
    ∷ base (1 · 12 ∷ 1 · 13 ∷ []) "x" is_told Refused (ForkPoints 9)
    ∷ [])

-- ===== Collected states

-- 1.3 joins 1.1 and 1.2, which are collected; the root is kept
abbrev pub collected : List Line
collected =
    joined
    ++ 1 asks Abort => Done
    ∷ 1 asks Ceiling (1 · 3) => Done
    ∷ 2 asks Ceiling (1 · 3) => Done
    ∷ 0 asks RaiseAuto => Raised (1 · 3) 1
    ∷ 0 asks Tidy 2 => Tidied 2
    ∷ []

-- of a collected state nothing is told, but what it wrote is found below it; a closed state that is kept is told of as any other
abbrev pub CollectedStatesAreRefused : Type 0
CollectedStatesAreRefused =
    Talk lone_site collected
    × Tells (site_after lone_site collected)
    (at (1 · 1) "x" is_told Refused (Collected (1 · 1))
    ∷ at (1 · 3) "x" is_told value (1 · 3) "3"
    ∷ at (1 · 3) "y" is_told value (1 · 2) "5"
    ∷ at (0 · 0) "y" is_told absent
    ∷ keys (1 · 2) "" "" is_told Refused (Collected (1 · 2))
    ∷ keys (1 · 3) "" "" is_told these_keys 2 ("x" ∷ "y" ∷ [])
    ∷ RecordOf (1 · 1) is_told Refused (Collected (1 · 1))
    ∷ RecordOf (1 · 3) is_told TheRecord 3 (1 · 1 ∷ 1 · 2 ∷ []) [] [] (map codes ("x" ∷ []))
    ∷ RecordOf (0 · 0) is_told TheRecord 0 [] [] [] []
    ∷ base (1 · 1 ∷ 1 · 4 ∷ []) "x" is_told Refused (Unknown (1 · 4))
    ∷ base (1 · 3 ∷ 1 · 2 ∷ 1 · 1 ∷ []) "x" is_told Refused (Collected (1 · 2))
    ∷ base (0 · 0 ∷ 1 · 3 ∷ []) "x" is_told ForkReads (began_absent (0 · 0) ∷ [])
    ∷ [])

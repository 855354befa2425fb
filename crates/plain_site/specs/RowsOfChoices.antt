-- Rows that decide where the other rows leave a choice: each comes out otherwise under another rule that agrees on all of them.
use Rattle.std.specs.Prelude.{◌+◌, List, [], ◌∷◌, ◌++◌}
use Rattle.tardis_base.specs.declared.ids.StateId.{StateId}
use Rattle.tardis_base.specs.declared.records.Item.TheVariants.{State, Promise}
use Rattle.tardis_base.specs.declared.requests.Request.{Request}
use Rattle.tardis_base.specs.declared.requests.Request.TheVariants.{Ceiling, Raise, RaiseAuto, Tidy, Show, Deliver}
use Rattle.tardis_base.specs.declared.replies.Refusal.TheVariants.{Branches, OwnItem, ClosedParent, PathFull, Collected, CeilingBack, Comparable, Unknown}
use Rattle.tardis_base.specs.declared.replies.Refusal.TheVariants.{Below}
use Rattle.tardis_base.specs.declared.replies.Reply.TheVariants.{Opened, Begun, Merging, Absent, Done, Committed, Raised, Tidied, Shown, Applied, Known}
use Rattle.tardis_base.specs.declared.replies.Reply.TheVariants.{Refused}
use Rattle.plain_site.specs.RowWords.{Line, Talk, site_after, lone_site, program_limits, ◌·◌, ◌asks◌=>◌, opens, opens_following, begin_any, begin_at, get, put}
use Rattle.plain_site.specs.RowWords.{none, ser, nb, commit, commit_kb, merge_leaves, merge, value}
use Rattle.plain_site.specs.RowsOfCommits.{two_open, skewed}
use Rattle.plain_site.specs.RowsOfFloors.{raised_chain}
use Rattle.plain_site.specs.RowsOfCollection.{three_branches}
use Rattle.plain_site.specs.RowsOfExchange.{first_of_two}

-- ===== Commits

-- NB is looked at before KB: where both are broken, NB is named
abbrev pub NoBranchIsNamedFirst : Type 0
NoBranchIsNamedFirst = Talk lone_site (skewed ++ 2 asks commit_kb (ser + nb) 1 => Refused (Branches nb (0 · 0) 1) ∷ [])

-- a key that the transaction wrote before it got it was never read: the commit goes past states that write it
abbrev pub OwnWritesAreNotRead : Type 0
OwnWritesAreNotRead =
    Talk lone_site
    (two_open
    ++ 2 asks begin_any => Begun (0 · 0)
    ∷ 2 asks put "x" "9" => Done
    ∷ 2 asks get "x" => value (0 · 0) "9"
    ∷ 1 asks begin_any => Begun (0 · 0)
    ∷ 1 asks put "x" "1" => Done
    ∷ 1 asks commit ser => Committed (1 · 1) (0 · 0 ∷ [])
    ∷ 2 asks commit ser => Committed (1 · 2) (1 · 1 ∷ [])
    ∷ [])

-- 1.1 and 1.2 fork below the root
abbrev pub forked : List Line
forked =
    two_open
    ++ 1 asks begin_any => Begun (0 · 0)
    ∷ 2 asks begin_any => Begun (0 · 0)
    ∷ 2 asks get "a" => Absent
    ∷ 1 asks put "a" "1" => Done
    ∷ 2 asks put "x" "2" => Done
    ∷ 1 asks commit ser => Committed (1 · 1) (0 · 0 ∷ [])
    ∷ 2 asks commit ser => Committed (1 · 2) (0 · 0 ∷ [])
    ∷ []

-- the news of a merge is all that it brings to one branch from the others, not what it writes itself: 1.3 writes nothing, yet
-- below it x isn't absent any more
abbrev pub MergesBringNews : Type 0
MergesBringNews =
    Talk lone_site
    (forked
    ++ 2 asks begin_at (1 · 1) => Begun (1 · 1)
    ∷ 2 asks get "x" => Absent
    ∷ 2 asks put "z" "1" => Done
    ∷ 1 asks merge_leaves => Merging (1 · 1 ∷ 1 · 2 ∷ [])
    ∷ 1 asks commit none => Committed (1 · 3) (1 · 1 ∷ 1 · 2 ∷ [])
    ∷ 2 asks commit ser => Committed (1 · 4) (1 · 1 ∷ [])
    ∷ [])

-- ===== Merges

-- over 1.2, where 1.1 wrote k, and 1.3, which wrote it below 1.1, the value is that of 1.3, whichever is named first
abbrev pub ValueIsTheLowestWriters : Type 0
ValueIsTheLowestWriters =
    Talk lone_site
    (two_open
    ++ 1 asks begin_any => Begun (0 · 0)
    ∷ 1 asks put "k" "1" => Done
    ∷ 1 asks commit ser => Committed (1 · 1) (0 · 0 ∷ [])
    ∷ 1 asks begin_any => Begun (1 · 1)
    ∷ 2 asks begin_any => Begun (1 · 1)
    ∷ 2 asks get "a" => Absent
    ∷ 1 asks put "a" "1" => Done
    ∷ 2 asks put "k" "2" => Done
    ∷ 1 asks commit ser => Committed (1 · 2) (1 · 1 ∷ [])
    ∷ 2 asks commit ser => Committed (1 · 3) (1 · 1 ∷ [])
    ∷ 1 asks merge_leaves => Merging (1 · 2 ∷ 1 · 3 ∷ [])
    ∷ 1 asks get "k" => value (1 · 3) "2"
    ∷ [])

-- the states of a merge are all tried for one thing before any is tried for the next: whether it is known, whether it is
-- admitted, and then pairs, by the place of the one and then of the other
abbrev pub MergeTriesOneThingAtATime : Type 0
MergeTriesOneThingAtATime =
    Talk lone_site
    (raised_chain
    ++ 1 asks merge (1 · 1 ∷ 5 · 1 ∷ []) => Refused (Unknown (5 · 1))
    ∷ 1 asks merge (1 · 5 ∷ 1 · 5 ∷ 1 · 1 ∷ []) => Refused (Below (1 · 1) (1 · 5))
    ∷ 2 asks begin_any => Begun (1 · 5)
    ∷ 2 asks put "x" "6" => Done
    ∷ 2 asks commit ser => Committed (1 · 6) (1 · 5 ∷ [])
    ∷ 1 asks merge (1 · 6 ∷ 1 · 5 ∷ []) => Refused (Comparable (1 · 6) (1 · 5))
    ∷ 1 asks merge (1 · 5 ∷ 1 · 6 ∷ 1 · 6 ∷ 1 · 5 ∷ []) => Refused (Comparable (1 · 5) (1 · 6))
    ∷ [])

-- ===== Ceilings and collection

-- the ceiling of a session that follows stays where it is when the session commits on another branch
abbrev pub CeilingStaysOnItsBranch : Type 0
CeilingStaysOnItsBranch =
    Talk lone_site
    (1 asks opens_following => Opened (0 · 0)
    ∷ 2 asks opens => Opened (0 · 0)
    ∷ 1 asks begin_any => Begun (0 · 0)
    ∷ 2 asks begin_any => Begun (0 · 0)
    ∷ 2 asks get "x" => Absent
    ∷ 1 asks put "x" "1" => Done
    ∷ 2 asks put "x" "2" => Done
    ∷ 1 asks commit ser => Committed (1 · 1) (0 · 0 ∷ [])
    ∷ 2 asks commit ser => Committed (1 · 2) (0 · 0 ∷ [])
    ∷ 1 asks begin_at (1 · 2) => Begun (1 · 2)
    ∷ 1 asks put "y" "3" => Done
    ∷ 1 asks commit ser => Committed (1 · 3) (1 · 2 ∷ [])
    ∷ 1 asks Ceiling (1 · 3) => Refused (CeilingBack (1 · 1))
    ∷ [])

-- the collectable state that arrived last is collected first
abbrev pub TidyTakesTheLastArrived : Type 0
TidyTakesTheLastArrived =
    Talk lone_site
    (raised_chain
    ++ 0 asks Tidy 1 => Tidied 1
    ∷ 0 asks Show (1 · 4) => Refused (Collected (1 · 4))
    ∷ 0 asks Show (0 · 0) => Shown 0 (1 · 1 ∷ []) []
    ∷ [])

-- the floor isn't collected, whatever is below it
abbrev pub FloorIsKept : Type 0
FloorIsKept =
    Talk lone_site
    (raised_chain
    ++ 1 asks begin_any => Begun (1 · 5)
    ∷ 1 asks put "x" "6" => Done
    ∷ 1 asks commit ser => Committed (1 · 6) (1 · 5 ∷ [])
    ∷ 0 asks Tidy 255 => Tidied 5
    ∷ 0 asks Show (1 · 5) => Shown 5 (1 · 6 ∷ []) []
    ∷ [])

-- 1.1, 1.2 and their merge 1.3 are collected, and with them the root, whose children both stand in at 1.4
abbrev pub CollectsMergedBranches : Type 0
CollectsMergedBranches =
    Talk lone_site
    (forked
    ++ 1 asks merge_leaves => Merging (1 · 1 ∷ 1 · 2 ∷ [])
    ∷ 1 asks commit none => Committed (1 · 3) (1 · 1 ∷ 1 · 2 ∷ [])
    ∷ 1 asks begin_any => Begun (1 · 3)
    ∷ 1 asks put "y" "1" => Done
    ∷ 1 asks commit ser => Committed (1 · 4) (1 · 3 ∷ [])
    ∷ 1 asks Ceiling (1 · 4) => Done
    ∷ 2 asks Ceiling (1 · 4) => Done
    ∷ 0 asks RaiseAuto => Raised (1 · 4) 1
    ∷ 0 asks Tidy 255 => Tidied 4
    ∷ 0 asks Show (1 · 4) => Shown 4 [] []
    ∷ [])

-- 1.2 and its merge 1.4 with 1.1 are collected, as is 1.1; the root is kept, since 1.3 is another child of it, and so are 1.3 and 1.5
abbrev pub two_of_three_tidied : List Line
two_of_three_tidied =
    three_branches
    ++ 1 asks begin_any => Begun (1 · 4)
    ∷ 1 asks put "y" "1" => Done
    ∷ 1 asks commit ser => Committed (1 · 5) (1 · 4 ∷ [])
    ∷ 1 asks Ceiling (1 · 5) => Done
    ∷ 0 asks RaiseAuto => Raised (1 · 5) 1
    ∷ 0 asks Tidy 255 => Tidied 3
    ∷ []

-- Only kept states have fork paths that may be too long: 1.5 is named, not 1.4, which arrived before it and was reached by the
-- same branches. No steps lead here, since a path doesn't grow once its state is closed: the limit is another one than before.
abbrev pub LongPathOfAKeptStateIsNamed : Type 0
LongPathOfAKeptStateIsNamed =
    Talk (record (site_after lone_site two_of_three_tidied) { limits = record (program_limits 1) { max_path = 1 } })
    (1 asks begin_any => Begun (1 · 5)
    ∷ 1 asks put "y" "2" => Done
    ∷ 1 asks commit ser => Refused (PathFull (1 · 5) 2)
    ∷ [])

-- ===== Deliveries

-- deliver the record of this state, without writes
abbrev pub deliver_bare : StateId → List StateId → Request
deliver_bare x parents = Deliver (State (record { id = x; parents = parents; writes = [] }))

-- a record of this site that is here is known, as any other that comes again; one that isn't is refused
abbrev pub OwnRecordIsKnown : Type 0
OwnRecordIsKnown =
    Talk first_of_two
    (1 asks opens => Opened (0 · 0)
    ∷ 1 asks begin_any => Begun (0 · 0)
    ∷ 1 asks put "x" "1" => Done
    ∷ 1 asks commit ser => Committed (1 · 1) (0 · 0 ∷ [])
    ∷ 0 asks deliver_bare (1 · 1) (0 · 0 ∷ []) => Known
    ∷ 0 asks deliver_bare (1 · 2) (1 · 1 ∷ []) => Refused (OwnItem 1 2)
    ∷ [])

-- a closed parent is named before a comparable pair; the floor itself isn't closed
abbrev pub ClosedParentIsNamedFirst : Type 0
ClosedParentIsNamedFirst =
    Talk first_of_two
    (0 asks deliver_bare (2 · 1) (0 · 0 ∷ []) => Applied
    ∷ 0 asks deliver_bare (2 · 2) (2 · 1 ∷ []) => Applied
    ∷ 0 asks Deliver (Promise (record { site = 2; number = 1; floor = 2 · 2; count = 2 })) => Applied
    ∷ 0 asks Raise (2 · 2) => Raised (2 · 2) 1
    ∷ 0 asks deliver_bare (2 · 3) (2 · 1 ∷ 2 · 2 ∷ []) => Refused (ClosedParent (2 · 1))
    ∷ 0 asks deliver_bare (2 · 3) (2 · 2 ∷ []) => Applied
    ∷ [])

-- Worked rows: where transactions begin, and where they commit.
use Rattle.std.specs.Prelude.{◌+◌, List, [], ◌∷◌, ◌++◌}
use Rattle.tardis_base.specs.declared.requests.Request.TheVariants.{Stat as AskStat, Show, Abort}
use Rattle.tardis_base.specs.declared.replies.Refusal.TheVariants.{NotOpen, AlreadyOpen, NoTxn, Branches}
use Rattle.tardis_base.specs.declared.replies.Reply.TheVariants.{Opened, Begun, Absent, Done, Committed, Ended, Stat, Shown, Refused}
use Rattle.plain_site.specs.RowWords.{Line, Talk, lone_site, ◌·◌, ◌asks◌=>◌, opens, begin_any, begin_ancestor, begin_parent, begin_at, get, put, ser, si, nb}
use Rattle.plain_site.specs.RowWords.{kb, commit, commit_kb}

-- two sessions open
abbrev pub two_open : List Line
two_open =
    1 asks opens => Opened (0 · 0)
    ∷ 2 asks opens => Opened (0 · 0)
    ∷ []

-- ===== Write skew: two sessions read both keys, and each writes another one

abbrev pub skewed : List Line
skewed =
    two_open
    ++ 1 asks begin_any => Begun (0 · 0)
    ∷ 2 asks begin_any => Begun (0 · 0)
    ∷ 1 asks get "x" => Absent
    ∷ 1 asks get "y" => Absent
    ∷ 2 asks get "x" => Absent
    ∷ 2 asks get "y" => Absent
    ∷ 1 asks put "x" "1" => Done
    ∷ 2 asks put "y" "2" => Done
    ∷ 1 asks commit ser => Committed (1 · 1) (0 · 0 ∷ [])
    ∷ []

-- with SER the second one forks the history
abbrev pub WriteSkewForks : Type 0
WriteSkewForks = Talk lone_site (skewed ++ 2 asks commit ser => Committed (1 · 2) (0 · 0 ∷ []) ∷ [])

-- with SI it goes below the first
abbrev pub WriteSkewPassesUnderSnapshots : Type 0
WriteSkewPassesUnderSnapshots = Talk lone_site (skewed ++ 2 asks commit si => Committed (1 · 2) (1 · 1 ∷ []) ∷ [])

-- with NB it may not fork, and may still go below
abbrev pub NoBranchRefusesTheFork : Type 0
NoBranchRefusesTheFork =
    Talk lone_site
    (skewed
    ++ 2 asks commit (ser + nb) => Refused (Branches nb (0 · 0) 1)
    ∷ 2 asks commit si => Committed (1 · 2) (1 · 1 ∷ [])
    ∷ [])

-- ===== A read of old news

-- session 2 reads x before session 1 commits it twice
abbrev pub behind : List Line
behind =
    two_open
    ++ 2 asks begin_any => Begun (0 · 0)
    ∷ 2 asks get "x" => Absent
    ∷ 2 asks put "z" "9" => Done
    ∷ 1 asks begin_any => Begun (0 · 0)
    ∷ 1 asks put "x" "1" => Done
    ∷ 1 asks commit ser => Committed (1 · 1) (0 · 0 ∷ [])
    ∷ 1 asks begin_any => Begun (1 · 1)
    ∷ 1 asks put "x" "2" => Done
    ∷ 1 asks commit ser => Committed (1 · 2) (1 · 1 ∷ [])
    ∷ 2 asks commit ser => Committed (1 · 3) (0 · 0 ∷ [])
    ∷ []

-- it forks at the state where it read, and there x is as it was
abbrev pub OldReadForks : Type 0
OldReadForks =
    Talk lone_site
    (behind
    ++ 2 asks begin_at (1 · 3) => Begun (1 · 3)
    ∷ 2 asks get "x" => Absent
    ∷ 0 asks Show (1 · 2) => Shown 2 [] ((0 · 0, 0) ∷ [])
    ∷ 0 asks Show (1 · 3) => Shown 3 [] ((0 · 0, 1) ∷ [])
    ∷ 0 asks Show (0 · 0) => Shown 0 (1 · 1 ∷ 1 · 3 ∷ []) []
    ∷ [])

-- its state arrived last, so Any begins there
abbrev pub AnyBeginsAtTheFork : Type 0
AnyBeginsAtTheFork =
    Talk lone_site
    (behind
    ++ 2 asks begin_any => Begun (1 · 3)
    ∷ 2 asks get "x" => Absent
    ∷ [])

-- ===== A read that stays true: the commit goes past all states that don't write what was read

abbrev pub CommitRipplesDown : Type 0
CommitRipplesDown =
    Talk lone_site
    (two_open
    -- begins before the first commit
    ++ 2 asks begin_any => Begun (0 · 0)
    ∷ 2 asks get "a" => Absent
    ∷ 2 asks put "b" "1" => Done
    ∷ 1 asks begin_any => Begun (0 · 0)
    ∷ 1 asks put "p" "1" => Done
    ∷ 1 asks commit ser => Committed (1 · 1) (0 · 0 ∷ [])
    ∷ 1 asks begin_any => Begun (1 · 1)
    ∷ 1 asks put "q" "1" => Done
    ∷ 1 asks commit ser => Committed (1 · 2) (1 · 1 ∷ [])
    ∷ 2 asks commit ser => Committed (1 · 3) (1 · 2 ∷ [])
    ∷ [])

-- ===== Fewer than k branches

abbrev pub BranchesAreCounted : Type 0
BranchesAreCounted =
    Talk lone_site
    (two_open
    ++ 3 asks opens => Opened (0 · 0)
    ∷ 1 asks begin_any => Begun (0 · 0)
    ∷ 2 asks begin_any => Begun (0 · 0)
    ∷ 3 asks begin_any => Begun (0 · 0)
    ∷ 1 asks get "x" => Absent
    ∷ 2 asks get "x" => Absent
    ∷ 3 asks get "x" => Absent
    ∷ 1 asks put "x" "1" => Done
    ∷ 2 asks put "x" "2" => Done
    ∷ 3 asks put "x" "3" => Done
    ∷ 1 asks commit ser => Committed (1 · 1) (0 · 0 ∷ [])
    ∷ 2 asks commit_kb ser 1 => Refused (Branches kb (0 · 0) 1)
    ∷ 2 asks commit_kb ser 2 => Committed (1 · 2) (0 · 0 ∷ [])
    ∷ 3 asks commit_kb ser 2 => Refused (Branches kb (0 · 0) 2)
    ∷ 3 asks commit_kb ser 3 => Committed (1 · 3) (0 · 0 ∷ [])
    ∷ [])

-- ===== Where a transaction begins

-- Parent begins at the last commit, Ancestor below it; the last commit of a new session is the root
abbrev pub BeginsFollowTheLastCommit : Type 0
BeginsFollowTheLastCommit =
    Talk lone_site
    (two_open
    ++ 1 asks begin_any => Begun (0 · 0)
    ∷ 1 asks put "p" "1" => Done
    ∷ 1 asks commit ser => Committed (1 · 1) (0 · 0 ∷ [])
    ∷ 2 asks begin_any => Begun (1 · 1)
    ∷ 2 asks put "q" "1" => Done
    ∷ 2 asks commit ser => Committed (1 · 2) (1 · 1 ∷ [])
    ∷ 1 asks begin_parent => Begun (1 · 1)
    ∷ 1 asks Abort => Done
    ∷ 1 asks begin_ancestor => Begun (1 · 2)
    ∷ 3 asks opens => Opened (0 · 0)
    ∷ 3 asks begin_parent => Begun (0 · 0)
    ∷ [])

-- ===== A transaction without writes

-- it makes no state
abbrev pub ReadingMakesNoState : Type 0
ReadingMakesNoState =
    Talk lone_site
    (1 asks opens => Opened (0 · 0)
    ∷ 1 asks begin_any => Begun (0 · 0)
    ∷ 1 asks get "x" => Absent
    ∷ 1 asks commit ser => Ended (0 · 0)
    ∷ 0 asks AskStat => Stat 1 1 1 1 (record { count = 0; floor = 0 · 0; number = 0 } ∷ [])
    ∷ 1 asks commit ser => Refused NoTxn
    ∷ 4 asks get "x" => Refused NotOpen
    ∷ 1 asks opens => Refused AlreadyOpen
    ∷ [])

-- Worked rows: begins and end constraints where the history has branches.
use Rattle.std.specs.Prelude.{◌+◌, List, [], ◌∷◌, ◌++◌}
use Rattle.tardis_base.specs.declared.requests.Request.TheVariants.{Abort}
use Rattle.tardis_base.specs.declared.replies.Refusal.TheVariants.{Unknown, TxnOpen}
use Rattle.tardis_base.specs.declared.replies.Reply.TheVariants.{Opened, Begun, Absent, Done, Committed, Ended, Refused}
use Rattle.plain_site.specs.RowWords.{Line, Talk, lone_site, ◌·◌, ◌asks◌=>◌, opens, begin_any, begin_ancestor, begin_at, get, put, none, ser, si, nb, commit}
use Rattle.plain_site.specs.RowWords.{merge_leaves, value}
use Rattle.plain_site.specs.RowsOfCommits.{two_open, skewed}

-- sessions 2 and 3 begin; 2 reads a and writes b, 3 reads b and writes c; then session 1 writes b in 1.1
abbrev pub written_before : List Line
written_before =
    two_open
    ++ 3 asks opens => Opened (0 · 0)
    ∷ 2 asks begin_any => Begun (0 · 0)
    ∷ 2 asks get "a" => Absent
    ∷ 2 asks put "b" "2" => Done
    ∷ 3 asks begin_any => Begun (0 · 0)
    ∷ 3 asks get "b" => Absent
    ∷ 3 asks put "c" "3" => Done
    ∷ 1 asks begin_any => Begun (0 · 0)
    ∷ 1 asks put "b" "1" => Done
    ∷ 1 asks commit ser => Committed (1 · 1) (0 · 0 ∷ [])
    ∷ []

-- SI forks before a state that writes what was written, and goes past one that writes what was read
abbrev pub SnapshotsForkOnWrites : Type 0
SnapshotsForkOnWrites =
    Talk lone_site
    (written_before
    ++ 2 asks commit si => Committed (1 · 2) (0 · 0 ∷ [])
    ∷ 3 asks commit si => Committed (1 · 3) (1 · 1 ∷ [])
    ∷ [])

-- SER does it the other way round
abbrev pub SerializableForksOnReads : Type 0
SerializableForksOnReads =
    Talk lone_site
    (written_before
    ++ 2 asks commit ser => Committed (1 · 2) (1 · 1 ∷ [])
    ∷ 3 asks commit ser => Committed (1 · 3) (0 · 0 ∷ [])
    ∷ [])

-- with both, either forks
abbrev pub BothForkOnEither : Type 0
BothForkOnEither =
    Talk lone_site
    (written_before
    ++ 2 asks commit (ser + si) => Committed (1 · 2) (0 · 0 ∷ [])
    ∷ 3 asks commit (ser + si) => Committed (1 · 3) (0 · 0 ∷ [])
    ∷ [])

-- with neither, nothing forks
abbrev pub WithoutConstraintsNothingForks : Type 0
WithoutConstraintsNothingForks =
    Talk lone_site
    (written_before
    ++ 2 asks commit none => Committed (1 · 2) (1 · 1 ∷ [])
    ∷ 3 asks commit none => Committed (1 · 3) (1 · 2 ∷ [])
    ∷ [])

-- of two children that pass, the way goes on to the one that arrived first; one that doesn't pass is left out
abbrev pub FirstPassingChildIsTaken : Type 0
FirstPassingChildIsTaken =
    Talk lone_site
    (3 asks opens => Opened (0 · 0)
    ∷ 4 asks opens => Opened (0 · 0)
    ∷ 3 asks begin_any => Begun (0 · 0)
    ∷ 4 asks begin_any => Begun (0 · 0)
    ∷ 4 asks get "x" => Absent
    ∷ 3 asks put "p" "3" => Done
    ∷ 4 asks put "q" "4" => Done
    ∷ []
    ++ skewed
    -- 1.1 writes x, and 1.2 writes y beside it
    ++ 2 asks commit ser => Committed (1 · 2) (0 · 0 ∷ [])
    ∷ 3 asks commit ser => Committed (1 · 3) (1 · 1 ∷ [])
    ∷ 4 asks commit ser => Committed (1 · 4) (1 · 2 ∷ [])
    ∷ [])

-- what was written at or above the read state is no news, and a commit goes past those that write other keys
abbrev pub OldWritesAreNoNews : Type 0
OldWritesAreNoNews =
    Talk lone_site
    (two_open
    ++ 1 asks begin_any => Begun (0 · 0)
    ∷ 1 asks put "x" "1" => Done
    ∷ 1 asks commit ser => Committed (1 · 1) (0 · 0 ∷ [])
    ∷ 1 asks begin_any => Begun (1 · 1)
    ∷ 2 asks begin_any => Begun (1 · 1)
    ∷ 2 asks get "x" => value (1 · 1) "1"
    ∷ 2 asks put "y" "2" => Done
    ∷ 1 asks put "z" "3" => Done
    ∷ 1 asks commit ser => Committed (1 · 2) (1 · 1 ∷ [])
    ∷ 2 asks commit ser => Committed (1 · 3) (1 · 2 ∷ [])
    ∷ [])

-- a transaction without writes ends whatever its end constraints say
abbrev pub ReadersAlwaysEnd : Type 0
ReadersAlwaysEnd =
    Talk lone_site
    (two_open
    ++ 1 asks begin_any => Begun (0 · 0)
    ∷ 2 asks begin_any => Begun (0 · 0)
    ∷ 2 asks get "x" => Absent
    ∷ 1 asks put "x" "1" => Done
    ∷ 1 asks commit ser => Committed (1 · 1) (0 · 0 ∷ [])
    ∷ 2 asks commit (ser + nb) => Ended (0 · 0)
    ∷ [])

-- Ancestor begins below the last commit of the session, and not at a branch that arrived later
abbrev pub AncestorKeepsToItsBranch : Type 0
AncestorKeepsToItsBranch =
    Talk lone_site
    (skewed
    ++ 2 asks commit ser => Committed (1 · 2) (0 · 0 ∷ [])
    ∷ 1 asks begin_ancestor => Begun (1 · 1)
    ∷ 2 asks begin_ancestor => Begun (1 · 2)
    ∷ [])

-- no transaction begins in another, nor at a state that isn't there; what is aborted was never written
abbrev pub AbortedWritesAreGone : Type 0
AbortedWritesAreGone =
    Talk lone_site
    (1 asks opens => Opened (0 · 0)
    ∷ 1 asks begin_at (1 · 1) => Refused (Unknown (1 · 1))
    ∷ 1 asks begin_any => Begun (0 · 0)
    ∷ 1 asks put "x" "1" => Done
    ∷ 1 asks begin_any => Refused TxnOpen
    ∷ 1 asks merge_leaves => Refused TxnOpen
    ∷ 1 asks Abort => Done
    ∷ 1 asks begin_any => Begun (0 · 0)
    ∷ 1 asks get "x" => Absent
    ∷ [])

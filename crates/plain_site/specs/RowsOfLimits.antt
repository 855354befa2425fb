-- Worked rows: limits of transactions and of the site.
use Rattle.std.specs.Prelude.{ℕ, List, [], ◌∷◌, ◌++◌}
use Rattle.tardis_base.specs.declared.requests.Request.TheVariants.{Get, Put, Abort}
use Rattle.tardis_base.specs.declared.replies.Refusal.TheVariants.{Full, SessionsFull, PathFull}
use Rattle.tardis_base.specs.declared.replies.Reply.TheVariants.{Opened, Begun, Absent, Done, Committed, Refused}
use Rattle.plain_site.specs.Reads.{too_many_writes, too_many_reads}
use Rattle.plain_site.specs.Site.{Site, opening}
use Rattle.plain_site.specs.RowWords.{Line, Talk, lone_site, program_limits, ◌·◌, ◌asks◌=>◌, opens, begin_any, begin_at, get, put, ser, commit, value}

abbrev pub begun : List Line
begun =
    1 asks opens => Opened (0 · 0)
    ∷ 1 asks begin_any => Begun (0 · 0)
    ∷ []

-- puts to this many keys of one byte, each done
abbrev pub puts : ℕ → List Line
puts ℕ.zero = []
puts (ℕ.suc n) = 1 asks Put (n ∷ []) [] => Done ∷ puts n

-- gets of this many keys of one byte, each absent
abbrev pub gets : ℕ → List Line
gets ℕ.zero = []
gets (ℕ.suc n) = 1 asks Get (n ∷ []) => Absent ∷ gets n

-- the 65th written key is one too many, and a written key is none
abbrev pub WritesAreLimited : Type 0
WritesAreLimited =
    Talk lone_site
    (begun
    ++ puts 64
    ++ 1 asks Put (64 ∷ []) [] => Refused (too_many_writes)
    ∷ 1 asks Put (63 ∷ []) [] => Done
    ∷ [])

-- the 257th read key is one too many, and a read key is none
abbrev pub ReadsAreLimited : Type 0
ReadsAreLimited =
    Talk lone_site
    (begun
    ++ gets 256
    ++ 1 asks Get (1 ∷ 0 ∷ []) => Refused (too_many_reads)
    ∷ 1 asks Get (255 ∷ []) => Absent
    ∷ [])

-- ===== Sites with other limits

abbrev pub three_states : Site
three_states = opening (record (program_limits 1) { max_kept = 3 }) 1

-- a site of three states makes no fourth one, and the transaction stays open
abbrev pub FullSiteRefuses : Type 0
FullSiteRefuses =
    Talk three_states
    (begun
    ++ 1 asks put "x" "1" => Done
    ∷ 1 asks commit ser => Committed (1 · 1) (0 · 0 ∷ [])
    ∷ 1 asks begin_any => Begun (1 · 1)
    ∷ 1 asks put "x" "2" => Done
    ∷ 1 asks commit ser => Committed (1 · 2) (1 · 1 ∷ [])
    ∷ 1 asks begin_any => Begun (1 · 2)
    ∷ 1 asks put "x" "3" => Done
    ∷ 1 asks commit ser => Refused (Full 3)
    ∷ 1 asks get "x" => value (0 · 0) "3"
    ∷ 1 asks Abort => Done
    ∷ [])

abbrev pub one_session : Site
one_session = opening (record (program_limits 1) { max_sessions = 1 }) 1

abbrev pub SecondSessionIsRefused : Type 0
SecondSessionIsRefused =
    Talk one_session
    (1 asks opens => Opened (0 · 0)
    ∷ 2 asks opens => Refused (SessionsFull 1)
    ∷ [])

abbrev pub one_pair : Site
one_pair = opening (record (program_limits 1) { max_path = 1 }) 1

-- 1.1 and 1.2 fork below the root, and 1.3 is below 1.1; a second state below 1.1 would make its path one of two pairs
abbrev pub LongPathIsRefused : Type 0
LongPathIsRefused =
    Talk one_pair
    (1 asks opens => Opened (0 · 0)
    ∷ 2 asks opens => Opened (0 · 0)
    ∷ 1 asks begin_any => Begun (0 · 0)
    ∷ 2 asks begin_any => Begun (0 · 0)
    ∷ 2 asks get "x" => Absent
    ∷ 1 asks put "x" "1" => Done
    ∷ 2 asks put "x" "2" => Done
    ∷ 1 asks commit ser => Committed (1 · 1) (0 · 0 ∷ [])
    ∷ 2 asks commit ser => Committed (1 · 2) (0 · 0 ∷ [])
    ∷ 1 asks begin_at (1 · 1) => Begun (1 · 1)
    ∷ 2 asks begin_at (1 · 1) => Begun (1 · 1)
    ∷ 2 asks get "x" => value (1 · 1) "1"
    ∷ 1 asks put "x" "3" => Done
    ∷ 2 asks put "x" "4" => Done
    ∷ 1 asks commit ser => Committed (1 · 3) (1 · 1 ∷ [])
    ∷ 2 asks commit ser => Refused (PathFull (1 · 3) 2)
    ∷ [])

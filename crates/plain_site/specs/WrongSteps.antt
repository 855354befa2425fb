-- Wrong steps, and runs in which they break the laws: so each law says something.
use Rattle.std.specs.Prelude.{◌+◌, not, List, [], ◌∷◌, take, filter, codes, if◌then◌else◌}
use Rattle.tardis_base.specs.declared.ids.StateId.{StateId}
use Rattle.tardis_base.specs.declared.records.Record.{Record}
use Rattle.tardis_base.specs.declared.records.Write.TheVariants.{Put as Value}
use Rattle.tardis_base.specs.declared.records.Item.TheVariants.{State}
use Rattle.tardis_base.specs.declared.requests.Begin.TheVariants.{Any, Parent}
use Rattle.tardis_base.specs.declared.requests.Request.TheVariants.{Begin, Get, GetFor, Commit, Tidy, Raise, Deliver, Settle}
use Rattle.tardis_base.specs.declared.replies.Refusal.TheVariants.{NoTxn, Branches}
use Rattle.tardis_base.specs.declared.replies.Reply.{Reply}
use Rattle.tardis_base.specs.declared.replies.Reply.TheVariants.{Opened, Begun, Merging, Absent, Done, Committed, Ended, Raised, Tidied, Applied, Early}
use Rattle.tardis_base.specs.declared.replies.Reply.TheVariants.{Refused}
use Rattle.tardis_base.specs.Ids.{root, is_among}
use Rattle.plain_dag.specs.Begin.{last_arrived}
use Rattle.plain_dag.specs.Entries.{changed}
use Rattle.plain_dag.specs.Floors.{with_ceiling}
use Rattle.plain_dag.specs.Writers.{read}
use Rattle.plain_site.specs.Site.{Site, opening, Txn, Single, Merge, read_states, writes_of, with_txn_changed}
use Rattle.plain_site.specs.Answers.{Answer, found, leaves_site, with_txn}
use Rattle.plain_site.specs.Reads.{read_in}
use Rattle.plain_site.specs.Commits.{without_txn_of, commit_below}
use Rattle.plain_site.specs.Step.{step}
use Rattle.plain_site.specs.RowWords.{Line, program_limits, ◌·◌, ◌asks◌=>◌, opens, opens_following, begin_any, begin_ancestor, begin_parent, begin_at, get}
use Rattle.plain_site.specs.RowWords.{get_for, put, none, ser, si, nb, commit, merge_leaves, value}
use Rattle.plain_site.specs.ClientRuns.{Service}

-- the service breaks the law
abbrev pub IsBrokenBy : (Service → Type 0) → Service → Type 0
IsBrokenBy Law service = Law service → ⊥

-- ===== Wrong steps: each is the step but for one kind of request

abbrev pub unread : Txn → Txn
unread (Single t) = Single (record t { reads = [] })
unread (Merge t) = Merge t

-- a commit lands as if its transaction had read nothing
abbrev pub forgets_reads : Service
forgets_reads site n (Commit flags k) = step (with_txn_changed n unread site) n (Commit flags k)
forgets_reads site n q = step site n q

-- a commit is made without its end constraints
abbrev pub forgets_constraints : Service
forgets_constraints site n (Commit flags k) = step site n (Commit (record { 0 = none }) 0)
forgets_constraints site n q = step site n q

-- a Get is answered at the state that arrived last
abbrev pub reads_newest : Service
reads_newest site n (Get k) = ((step site n (Get k)).0, found (read site.dag k (last_arrived site.dag)))
reads_newest site n q = step site n q

-- a Get doesn't look at own writes
abbrev pub forgets_own_writes : Service
forgets_own_writes site n (Get k) = with_txn site n (λ s t. read_in site n t k)
forgets_own_writes site n q = step site n q

-- a GetFor is answered at the state that arrived last
abbrev pub shows_newest_side : Service
shows_newest_side site n (GetFor k x) = ((step site n (GetFor k x)).0, found (read site.dag k (last_arrived site.dag)))
shows_newest_side site n q = step site n q

-- the records of collected states are forgotten
abbrev pub without_collected : Answer → Answer
without_collected answer = (record answer.0 { dag = filter (λ r. not (is_among r.id answer.0.collected)) answer.0.dag }, answer.1)

abbrev pub forgets_collected : Service
forgets_collected site n (Tidy count) = without_collected (step site n (Tidy count))
forgets_collected site n q = step site n q

-- a record of another site isn't kept
abbrev pub forgets_deliveries : Service
forgets_deliveries site n (Deliver item) = (site, Applied)
forgets_deliveries site n q = step site n q

-- a record that came early doesn't wait
abbrev pub forgets_waiting : Service
forgets_waiting site n (Deliver item) =
    let answer = step site n (Deliver item) in
    (record answer.0 { waiting = site.waiting }, answer.1)
forgets_waiting site n q = step site n q

-- what waits isn't taken, whatever the reply says
abbrev pub forgets_settled : Service
forgets_settled site n Settle = (site, Applied)
forgets_settled site n q = step site n q

abbrev pub moved_end : StateId → Reply → Reply
moved_end x (Ended y) = Ended x
moved_end x reply = reply

-- a single transaction without writes is said to end at the state that arrived last
abbrev pub ends_at_newest : Service
ends_at_newest site n (Commit flags k) =
    let answer = step site n (Commit flags k) in
    (answer.0, moved_end (last_arrived site.dag) answer.1)
ends_at_newest site n q = step site n q

-- a commit goes just below the read states, and no conflict key has to be written
abbrev pub leaves_conflicts : Service
leaves_conflicts site n (Commit flags k) = with_txn site n (λ s t. commit_below site n (read_states t) (writes_of t) [])
leaves_conflicts site n q = step site n q

abbrev pub first_side : Txn → Txn
first_side (Single t) = Single t
first_side (Merge t) = Merge (record t { states = take 1 t.states })

-- a merge drops all its read states but the first
abbrev pub drops_sides : Service
drops_sides site n (Commit flags k) = step (with_txn_changed n first_side site) n (Commit flags k)
drops_sides site n q = step site n q

-- a session doesn't know its commits
abbrev pub forgets_commits : Service
forgets_commits site n (Commit flags k) =
    let answer = step site n (Commit flags k) in
    (record answer.0 { sessions = site.sessions }, answer.1)
forgets_commits site n q = step site n q

-- Any begins at the session's last commit
abbrev pub stays_with_own : Service
stays_with_own site n (Begin Any) = step site n (Begin Parent)
stays_with_own site n q = step site n q

-- a transaction begins as if its session had the root as its ceiling
abbrev pub forgets_ceilings : Service
forgets_ceilings site n (Begin b) =
    let answer = step (record site { sessions = changed n (with_ceiling root) site.sessions }) n (Begin b) in
    (record answer.0 { sessions = site.sessions }, answer.1)
forgets_ceilings site n q = step site n q

-- a commit that is refused ends its transaction
abbrev pub ends_refused : Service
ends_refused site n (Commit flags k) =
    let answer = step site n (Commit flags k) in
    if leaves_site (Commit flags k) answer.1 then (without_txn_of n answer.0, answer.1) else answer
ends_refused site n q = step site n q

-- ===== Runs, newest line first

-- sessions 1 and 2 begin at the root; 1 reads x and writes y; 2 writes x and commits it as 1.1
abbrev pub begun_both : List Line
begun_both =
    2 asks put "x" "2" => Done
    ∷ 1 asks put "y" "1" => Done
    ∷ 1 asks get "x" => Absent
    ∷ 2 asks begin_any => Begun (0 · 0)
    ∷ 1 asks begin_any => Begun (0 · 0)
    ∷ 2 asks opens => Opened (0 · 0)
    ∷ 1 asks opens => Opened (0 · 0)
    ∷ []

abbrev pub raced : List Line
raced = 2 asks commit none => Committed (1 · 1) (0 · 0 ∷ []) ∷ begun_both

-- 1 commits with SER below 1.1, which wrote what it had read
abbrev pub stale_read : List Line
stale_read = 1 asks commit ser => Committed (1 · 2) (1 · 1 ∷ []) ∷ raced

-- 1 writes x too
abbrev pub both_wrote : List Line
both_wrote = 1 asks put "x" "1" => Done ∷ raced

-- 1 commits with SI below 1.1, and so writes over what it hasn't seen
abbrev pub lost_update : List Line
lost_update = 1 asks commit si => Committed (1 · 2) (1 · 1 ∷ []) ∷ both_wrote

-- 1 reads x again, and finds the write of 1.1
abbrev pub unstable_read : List Line
unstable_read = 1 asks get "x" => value (1 · 1) "2" ∷ raced

-- 1 doesn't find what it wrote to y
abbrev pub own_write_missed : List Line
own_write_missed = 1 asks get "y" => Absent ∷ raced

-- 2 begins at its last commit, and reads at the root
abbrev pub own_commit_missed : List Line
own_commit_missed = 2 asks begin_parent => Begun (0 · 0) ∷ raced

-- 1 makes 1.2 beside 1.1
abbrev pub forked : List Line
forked = 1 asks commit ser => Committed (1 · 2) (0 · 0 ∷ []) ∷ raced

-- 2 begins where the root is the ancestor
abbrev pub other_branch_read : List Line
other_branch_read = 2 asks begin_ancestor => Begun (1 · 2) ∷ forked

-- 2 begins at its own commit, though 1.2 arrived last
abbrev pub newest_missed : List Line
newest_missed = 2 asks begin_any => Begun (1 · 1) ∷ forked

-- 1 may not branch, and then has no transaction
abbrev pub refused_commit : Line
refused_commit = 1 asks commit (ser + nb) => Refused (Branches nb (0 · 0) 1)

abbrev pub commit_after_refusal : Line
commit_after_refusal = 1 asks commit none => Refused NoTxn

-- 3 reads at the root, and is said to end at 1.1
abbrev pub begun_three : List Line
begun_three =
    3 asks get "x" => Absent
    ∷ 3 asks begin_at (0 · 0) => Begun (0 · 0)
    ∷ 3 asks opens => Opened (0 · 0)
    ∷ raced

abbrev pub ended_elsewhere : List Line
ended_elsewhere = 3 asks commit ser => Ended (1 · 1) ∷ begun_three

-- the first of two sites, and a record of the second that it took
abbrev pub first_site : Site
first_site = opening (program_limits 2) 1

abbrev pub of_second_site : Record
of_second_site = record { id = 2 · 1; parents = 0 · 0 ∷ []; writes = [] }

abbrev pub delivered : Line
delivered = 0 asks Deliver (State of_second_site) => Applied

-- one that came before its parent, and so waits
abbrev pub waiting_record : Record
waiting_record = record { id = 2 · 2; parents = 2 · 1 ∷ []; writes = [] }

abbrev pub came_early : Line
came_early = 0 asks Deliver (State waiting_record) => Early 0

-- nothing waits, and yet something is taken
abbrev pub settled_nothing : Line
settled_nothing = 0 asks Settle => Applied

-- another record under the same id, taken too
abbrev pub delivered_again : Line
delivered_again = 0 asks Deliver (State (record of_second_site { writes = (codes "x", Value (codes "1")) ∷ [] })) => Applied

-- what came after 2 made 1.1, where 1 wrote x too: 1 makes 1.2 beside it and merges the two as 1.3, though both wrote x
abbrev pub after_conflict : List Line
after_conflict =
    1 asks commit none => Committed (1 · 3) (1 · 1 ∷ 1 · 2 ∷ [])
    ∷ 1 asks merge_leaves => Merging (1 · 1 ∷ 1 · 2 ∷ [])
    ∷ 1 asks commit ser => Committed (1 · 2) (0 · 0 ∷ [])
    ∷ 1 asks put "x" "1" => Done
    ∷ []

-- 1 makes 1.2 beside 1.1, and then merges the two
abbrev pub merging_both : List Line
merging_both =
    1 asks merge_leaves => Merging (1 · 1 ∷ 1 · 2 ∷ [])
    ∷ forked

-- for the side of 1.1 it is shown that of 1.2
abbrev pub other_side_shown : List Line
other_side_shown = 1 asks get_for "x" (1 · 1) => Absent ∷ merging_both

-- a following session makes 1.1 ..
abbrev pub followed : List Line
followed =
    1 asks commit none => Committed (1 · 1) (0 · 0 ∷ [])
    ∷ 1 asks put "x" "1" => Done
    ∷ 1 asks begin_any => Begun (0 · 0)
    ∷ 1 asks opens_following => Opened (0 · 0)
    ∷ []

-- .. and reads at the root again
abbrev pub read_above : List Line
read_above = 1 asks begin_at (0 · 0) => Begun (0 · 0) ∷ followed

-- .. and writes x again
abbrev pub written_again : List Line
written_again =
    1 asks put "x" "2" => Done
    ∷ 1 asks begin_any => Begun (1 · 1)
    ∷ followed

-- after it made 1.2, 1.1 is closed and collected
abbrev pub collected : List Line
collected = 0 asks Tidy 1 => Tidied 1 ∷ 0 asks Raise (1 · 2) => Raised (1 · 2) 1 ∷ []

-- and what it makes next is called 1.2 too
abbrev pub name_given_twice : List Line
name_given_twice =
    1 asks commit none => Committed (1 · 2) (1 · 2 ∷ [])
    ∷ 1 asks put "x" "3" => Done
    ∷ 1 asks begin_any => Begun (1 · 2)
    ∷ collected

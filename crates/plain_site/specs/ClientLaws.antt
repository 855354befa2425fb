-- What a client can rely on, as laws over whole runs. Each is a law of what a site does at requests (`Service`), so that it
-- can be asked of a wrong one too.
use Rattle.std.specs.Prelude.{◌≡◌, ℕ, ◌↔◌, List, [], ◌∷◌, ◌++◌, Option, Some, None, IsTrue, IsFalse}
use Rattle.tardis_base.specs.declared.ids.StateId.{StateId}
use Rattle.tardis_base.specs.declared.records.Record.{Record}
use Rattle.tardis_base.specs.declared.records.Write.{Write}
use Rattle.tardis_base.specs.declared.records.Item.TheVariants.{State}
use Rattle.tardis_base.specs.declared.requests.Begin.{Begin as BeginAt}
use Rattle.tardis_base.specs.declared.requests.Begin.TheVariants.{Any, Ancestor, Parent}
use Rattle.tardis_base.specs.declared.requests.EndFlags.{EndFlags}
use Rattle.tardis_base.specs.declared.requests.Request.TheVariants.{Begin, Get, GetFor, Commit, Deliver, Settle}
use Rattle.tardis_base.specs.declared.replies.Reply.{Reply}
use Rattle.tardis_base.specs.declared.replies.Reply.TheVariants.{Begun, Committed, Ended, Applied}
use Rattle.tardis_base.specs.Ids.{root, is_among}
use Rattle.tardis_base.specs.Keys.{has_key, write_of}
use Rattle.plain_dag.specs.States.{is_known, record_at}
use Rattle.plain_dag.specs.Above.{is_above, is_proper_ancestor}
use Rattle.plain_dag.specs.Writers.{is_writer, are_above, read}
use Rattle.plain_dag.specs.Conflicts.{is_conflict_key, value_over}
use Rattle.plain_dag.specs.Begin.{last_arrived}
use Rattle.plain_dag.specs.Floors.{Session}
use Rattle.plain_dag.specs.Landing.{is_ser, is_si}
use Rattle.plain_site.specs.Site.{Site}
use Rattle.plain_site.specs.Answers.{leaves_site, shown, found}
use Rattle.plain_site.specs.Exchange.{first_fit_record}
use Rattle.plain_site.specs.RowWords.{Line, ◌asks◌=>◌}
use Rattle.plain_site.specs.ClientRuns.{Service, IsRun, Told, told, is_shown, site_after, told_site, history, told_session, ReadsShow}

-- ===== Commits among lines

-- a commit that was done: by which actor, with which end constraints, as which state, and below which parents
pub record DoneCommit : Type 0 where
  pub actor : ℕ
  pub flags : EndFlags
  pub k : ℕ
  pub state : StateId
  pub parents : List StateId

-- its line
abbrev pub as_line : DoneCommit → Line
as_line c = c.actor asks Commit c.flags c.k => Committed c.state c.parents

-- ===== Each transaction reads one snapshot

-- however long a transaction runs, each of its reads shows the value over its read states
abbrev pub ReadsOneSnapshot : Service → Type 0
ReadsOneSnapshot service =
    (start : Site) (lines : List Line) (n : ℕ) (t : Told) → IsRun service start lines → told n lines ≡ Some t →
    ReadsShow (value_over (history start lines) t.states) t.reads

-- where it reads at one state, it is shown what is read there
abbrev pub ReadsAtItsState : Service → Type 0
ReadsAtItsState service =
    (start : Site) (lines : List Line) (n : ℕ) (t : Told) (s : StateId) → IsRun service start lines → told n lines ≡ Some t → t.states ≡ s ∷ [] →
    ReadsShow (λ key. read (history start lines) key s) t.reads

-- a Get of a key that the transaction wrote is shown what it wrote last; the root stands for its writer
abbrev pub OwnWritesAreRead : Service → Type 0
OwnWritesAreRead service =
    (start : Site) (older : List Line) (n : ℕ) (key : List ℕ) (w : Write) (reply : Reply) (t : Told) →
    IsRun service start (n asks Get key => reply ∷ older) → told n older ≡ Some t → write_of key t.writes ≡ Some w → IsTrue (is_shown reply) →
    reply ≡ shown root w

-- a merge's GetFor shows what is read at the one of its read states that it names
abbrev pub MergesShowEachSide : Service → Type 0
MergesShowEachSide service =
    (start : Site) (older : List Line) (n : ℕ) (key : List ℕ) (x : StateId) (reply : Reply) →
    IsRun service start (n asks GetFor key x => reply ∷ older) → IsTrue (is_shown reply) →
    (t : Told) × (told n older ≡ Some t) × IsTrue t.merges × IsTrue (is_among x t.states) × (reply ≡ found (read (history start older) key x))

-- a transaction whose commit makes no state wrote nothing; it ends at the one state that it read, and each of its reads shows
-- what is read there
abbrev pub ReadersEndWhereTheyRead : Service → Type 0
ReadersEndWhereTheyRead service =
    (start : Site) (older : List Line) (n : ℕ) (flags : EndFlags) (k : ℕ) (x : StateId) →
    IsRun service start (n asks Commit flags k => Ended x ∷ older) →
    (t : Told) × (told n older ≡ Some t) × (t.states ≡ x ∷ []) × (t.writes ≡ []) × ReadsShow (λ key. read (history start older) key x) t.reads

-- ===== Each serializable transaction has read what its place in its branch shows

-- a transaction that commits with SER has one parent p, and each of its reads shows what is read at p at its commit
abbrev pub SerializableReadsHold : Service → Type 0
SerializableReadsHold service =
    (start : Site) (older : List Line) (c : DoneCommit) →
    IsRun service start (as_line c ∷ older) → IsTrue (is_ser c.flags) →
    (t : Told) × (p : StateId) × (told c.actor older ≡ Some t) × (c.parents ≡ p ∷ []) × ReadsShow (λ key. read (history start older) key p) t.reads

-- these records, newest first, are the branch from the root down to x: each state has the next of them as its only parent
abbrev pub IsBranch : List Record → List Record → StateId → Type 0
IsBranch rs [] x = x ≡ root
IsBranch rs (r ∷ before) x = (p : StateId) × (record_at rs x ≡ Some r) × (r.parents ≡ p ∷ []) × IsBranch rs before p

-- what a key holds after these, newest first, were done one after another: the newest write to it, if there is one
abbrev pub one_after_another : List Record → List ℕ → Option (StateId × Write)
one_after_another [] key = None
one_after_another (r ∷ before) key =
    let older = one_after_another before key in
    elim (write_of key r.writes) [ Some w ↦ Some (r.id, w) | None ↦ older ]

-- among these lines is the transaction's commit
abbrev pub HasCommitted : List Line → DoneCommit → Told → Type 0
HasCommitted lines c t = (newer : List Line) × (older : List Line) × (lines ≡ newer ++ as_line c ∷ older) × (told c.actor older ≡ Some t)

-- done one after another in the order of the branch, its serializable transactions read what they did read
abbrev pub IsSerial : List Line → List Record → Type 0
IsSerial lines [] = Unit {0}
IsSerial lines (r ∷ before) =
    ((c : DoneCommit) (t : Told) → HasCommitted lines c t → c.state ≡ r.id → IsTrue (is_ser c.flags) → ReadsShow (one_after_another before) t.reads)
    × IsSerial lines before

-- So up to its first merge a branch is a serial history of its serializable transactions. (A branch of states with one parent
-- each; below a merge the law above says what each of them has read.)
abbrev pub BranchesAreSerial : Service → Type 0
BranchesAreSerial service =
    (start : Site) (lines : List Line) (branch : List Record) (x : StateId) → IsRun service start lines → IsBranch (history start lines) branch x →
    IsSerial lines branch

-- ===== Snapshot transactions overwrite nothing that they haven't seen

-- a transaction that commits with SI has one read state s and one parent p; each of its reads shows what is read at s, and
-- what writes a key of its writes and is at or above p is at or above s
abbrev pub SnapshotsOverwriteNothingUnseen : Service → Type 0
SnapshotsOverwriteNothingUnseen service =
    (start : Site) (older : List Line) (c : DoneCommit) →
    IsRun service start (as_line c ∷ older) → IsTrue (is_si c.flags) →
    let rs = history start older in
    (t : Told) × (s : StateId) × (p : StateId) × (told c.actor older ≡ Some t) × (t.states ≡ s ∷ []) × (c.parents ≡ p ∷ [])
    × ReadsShow (λ key. read rs key s) t.reads
    × ((key : List ℕ) (w : StateId) → IsTrue (has_key key t.writes) → IsTrue (is_writer rs key p w) → IsTrue (is_above rs w s))

-- ===== Nothing committed is lost

-- the history of the site is what the lines tell: the root, what was committed, and what was applied; so are its floors, and
-- what waits in its waiting room
abbrev pub HistoryIsTold : Service → Type 0
HistoryIsTold service = (start : Site) (lines : List Line) → IsRun service start lines →
    let site = site_after service start lines in
    let as_told = told_site start lines in
    (site.dag ≡ as_told.dag) × (site.floors ≡ as_told.floors) × (site.waiting ≡ as_told.waiting)

-- whatever came after a commit: its state has its parents, and what the transaction wrote
abbrev pub CommitsAreKept : Service → Type 0
CommitsAreKept service =
    (start : Site) (newer older : List Line) (c : DoneCommit) →
    let lines = newer ++ as_line c ∷ older in
    IsRun service start lines →
    (t : Told) × (told c.actor older ≡ Some t)
    × (record_at (history start lines) c.state ≡ Some (record { id = c.state; parents = c.parents; writes = t.writes }))

-- and a record of another site is kept from when it was applied
abbrev pub DeliveriesAreKept : Service → Type 0
DeliveriesAreKept service =
    (start : Site) (newer older : List Line) (n : ℕ) (r : Record) →
    let lines = newer ++ (n asks Deliver (State r) => Applied) ∷ older in
    IsRun service start lines → record_at (history start lines) r.id ≡ Some r

-- and what Settle applied from the waiting room is kept too: it is the first waiting record that was fit
abbrev pub SettledAreKept : Service → Type 0
SettledAreKept service =
    (start : Site) (newer older : List Line) (n : ℕ) →
    let lines = newer ++ (n asks Settle => Applied) ∷ older in
    IsRun service start lines →
    (found : ℕ × Record) × (first_fit_record (told_site start older) ≡ Some found) × (record_at (history start lines) found.1.id ≡ Some found.1)

-- a key that a commit wrote shows that at each state at or below it, until one below it and at or above that state writes the key
abbrev pub CommitsAreShown : Service → Type 0
CommitsAreShown service =
    (start : Site) (newer older : List Line) (c : DoneCommit) (t : Told) →
    let lines = newer ++ as_line c ∷ older in
    let rs = history start lines in
    IsRun service start lines → told c.actor older ≡ Some t →
    (key : List ℕ) (w : Write) (y : StateId) → write_of key t.writes ≡ Some w → IsTrue (is_known rs y) → IsTrue (is_above rs c.state y) →
    ((z : StateId) → IsTrue (is_proper_ancestor rs c.state z) → IsTrue (is_writer rs key y z) → ⊥) →
    read rs key y ≡ Some (c.state, w)

-- a key that a commit didn't write shows the one value over its parents, of which the key is no conflict key
abbrev pub OtherKeysAreJoined : Service → Type 0
OtherKeysAreJoined service =
    (start : Site) (newer older : List Line) (c : DoneCommit) (t : Told) →
    let lines = newer ++ as_line c ∷ older in
    let rs = history start lines in
    IsRun service start lines → told c.actor older ≡ Some t →
    (key : List ℕ) → IsFalse (has_key key t.writes) → IsFalse (is_conflict_key rs c.parents key) × (read rs key c.state ≡ value_over rs c.parents key)

-- a commit's state is at or below each state that its transaction read, and of a merge these are its parents
abbrev pub CommitsJoinWhatTheyRead : Service → Type 0
CommitsJoinWhatTheyRead service =
    (start : Site) (newer older : List Line) (c : DoneCommit) (t : Told) →
    let lines = newer ++ as_line c ∷ older in
    IsRun service start lines → told c.actor older ≡ Some t →
    IsTrue (are_above (history start lines) t.states c.state) × (IsTrue t.merges → c.parents ≡ t.states)

-- ===== Sessions read their own commits

-- Parent begins at the session's last commit
abbrev pub ParentReadsTheLastCommit : Service → Type 0
ParentReadsTheLastCommit service =
    (start : Site) (older : List Line) (n : ℕ) (x : StateId) → IsRun service start (n asks Begin Parent => Begun x ∷ older) →
    (s : Session) × (told_session start n older ≡ Some s) × (x ≡ s.last)

-- Ancestor begins at or below it
abbrev pub AncestorReadsTheLastCommit : Service → Type 0
AncestorReadsTheLastCommit service =
    (start : Site) (older : List Line) (n : ℕ) (x : StateId) → IsRun service start (n asks Begin Ancestor => Begun x ∷ older) →
    (s : Session) × (told_session start n older ≡ Some s) × IsTrue (is_above (history start older) s.last x)

-- and Any exactly where the state that arrived last is at or below it
abbrev pub AnyReadsTheLastCommit : Service → Type 0
AnyReadsTheLastCommit service =
    (start : Site) (older : List Line) (n : ℕ) (x : StateId) → IsRun service start (n asks Begin Any => Begun x ∷ older) →
    let rs = history start older in
    (s : Session) × (told_session start n older ≡ Some s) × (IsTrue (is_above rs s.last x) ↔ IsTrue (is_above rs s.last (last_arrived rs)))

-- wherever it is told to begin, a session never reads above its ceiling, which with follow goes down to each of its
-- commits that is below it
abbrev pub SessionsStayUnderCeilings : Service → Type 0
SessionsStayUnderCeilings service =
    (start : Site) (older : List Line) (n : ℕ) (b : BeginAt) (x : StateId) → IsRun service start (n asks Begin b => Begun x ∷ older) →
    (s : Session) × (told_session start n older ≡ Some s) × IsFalse (is_proper_ancestor (history start older) x s.ceiling)

-- ===== Refusals promise nothing hidden

-- a request that was refused, or answered Known, or Early where it delivered no record, is as if it hadn't been sent: without it, what came after is
-- answered the same and leads to the same site. So a refused commit leaves its transaction as it was, and the same commit
-- with weaker constraints is answered as if the refused one had not been sent
abbrev pub RefusalsHideNothing : Service → Type 0
RefusalsHideNothing service =
    (start : Site) (newer older : List Line) (line : Line) → IsTrue (leaves_site line.request line.reply) →
    IsRun service start (newer ++ line ∷ older) →
    IsRun service start (newer ++ older) × (site_after service start (newer ++ line ∷ older) ≡ site_after service start (newer ++ older))

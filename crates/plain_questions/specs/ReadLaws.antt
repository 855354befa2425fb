-- Laws of what is read by a question: it is what transactions read, and collecting changes nothing of it.
use Rattle.std.specs.Prelude.{◌≡◌, ℕ, ◌≤◌, Bool, true, false, List, [], ◌∷◌, length, map, Option, Some, None, IsTrue}
use Rattle.std.specs.List.{list_all}
use Rattle.tardis_base.specs.declared.ids.StateId.{StateId}
use Rattle.tardis_base.specs.declared.requests.Begin.TheVariants.{At as BeginAt}
use Rattle.tardis_base.specs.declared.requests.Request.{Request}
use Rattle.tardis_base.specs.declared.requests.Request.TheVariants.{Begin, Get, Tidy, ForkPoints as AsksForkPoints}
use Rattle.tardis_base.specs.declared.replies.Reply.{Reply}
use Rattle.tardis_base.specs.declared.replies.Reply.TheVariants.{States}
use Rattle.tardis_base.specs.Valid.{is_u16}
use Rattle.wire_talk.specs.Valid.{is_request}
use Rattle.plain_dag.specs.States.{is_known}
use Rattle.plain_dag.specs.Begin.{is_admitted}
use Rattle.plain_dag.specs.Forks.{fork_points, is_fork_point}
use Rattle.plain_dag.specs.Entries.{entry_of}
use Rattle.plain_dag.specs.Floors.{Session}
use Rattle.plain_dag.specs.Collection.{is_kept}
use Rattle.plain_site.specs.Site.{Site, MergeTxn, Merge}
use Rattle.plain_site.specs.Answers.{found}
use Rattle.plain_site.specs.Step.{step}
use Rattle.plain_site.specs.Sound.{IsSound}
use Rattle.plain_questions.specs.declared.questions.Question.{Question}
use Rattle.plain_questions.specs.declared.questions.Question.TheVariants.{At, Keys, Scan, Record as RecordOf, Base, Sessions, Site as TheSite}
use Rattle.plain_questions.specs.declared.questions.ForkRead.{ForkRead}
use Rattle.plain_questions.specs.declared.questions.Answered.{Answered}
use Rattle.plain_questions.specs.declared.questions.Answered.TheVariants.{Read, ForkReads}
use Rattle.plain_questions.specs.PageLaws.{Answering}

-- ===== Transactions

-- the reply that a Get of the same would have
abbrev pub as_reply : Answered → Option Reply
as_reply (Read read) = Some (found read)
as_reply _ = None

-- what At tells of a state at which an open session may begin is what its transaction is answered, once it began there
abbrev pub AtIsReadThere : Answering → Type 0
AtIsReadThere answering = (site : Site) (n : ℕ) (s : Session) (x : StateId) (k : List ℕ) → IsSound site → entry_of n site.sessions ≡ Some s →
    entry_of n site.txns ≡ None → IsTrue (is_known site.dag x) → IsTrue (is_admitted site.dag s.ceiling x) →
    let begun = (step site n (Begin (BeginAt x))).0 in
    as_reply (answering site (At x k)) ≡ Some (step begun n (Get k)).1

-- ===== Collecting

-- the states that the question is of
abbrev pub states_asked : Question → List StateId
states_asked (At x k) = x ∷ []
states_asked (Keys x prefix after) = x ∷ []
states_asked (Scan x prefix after) = x ∷ []
states_asked (RecordOf x) = x ∷ []
states_asked (Base xs k) = xs
states_asked (Sessions after) = []
states_asked TheSite = []

-- the question asks what is read, and not which states are kept
abbrev pub asks_reads : Question → Bool
asks_reads (At x k) = true
asks_reads (Keys x prefix after) = true
asks_reads (Scan x prefix after) = true
asks_reads (Base xs k) = true
asks_reads _ = false

-- as long as a question's states are kept, what is read at them is told as it was before states were collected
abbrev pub CollectingChangesNoRead : Answering → Type 0
CollectingChangesNoRead answering = (site : Site) (n count : ℕ) (q : Question) → IsTrue (asks_reads q) →
    let after = (step site n (Tidy count)).0 in
    IsTrue (list_all (is_kept after.dag after.collected) (states_asked q)) → answering after q ≡ answering site q

-- ===== Requests

-- the question asks what is read at one state
abbrev pub asks_one_state : Question → Bool
asks_one_state (At x k) = true
asks_one_state (Keys x prefix after) = true
asks_one_state (Scan x prefix after) = true
asks_one_state _ = false

-- whatever is asked of a site: what is read at a state that was kept and still is, is told as before
abbrev pub RequestsChangeNoRead : Answering → Type 0
RequestsChangeNoRead answering = (site : Site) (n : ℕ) (q : Request) (asked : Question) → IsSound site → IsTrue (is_u16 n) → IsTrue (is_request q) →
    IsTrue (asks_one_state asked) → IsTrue (list_all (is_kept site.dag site.collected) (states_asked asked)) →
    let after = (step site n q).0 in
    IsTrue (list_all (is_kept after.dag after.collected) (states_asked asked)) → answering after asked ≡ answering site asked

-- ===== Bases

-- the fork points at which reads are told
abbrev pub points_told : Answered → List StateId
points_told (ForkReads reads) = map (λ r. r.fork_point) reads
points_told _ = []

-- fork points of kept states are kept
abbrev pub ForkPointsAreKept : Type 0
ForkPointsAreKept = (site : Site) (x p : StateId) (xs : List StateId) → IsSound site →
    IsTrue (list_all (is_kept site.dag site.collected) (x ∷ xs)) → IsTrue (is_fork_point site.dag (x ∷ xs) p) →
    IsTrue (is_kept site.dag site.collected p)

-- so what Base tells of kept states at each fork point is what At tells there
abbrev pub BaseIsReadAtForkPoints : Answering → Type 0
BaseIsReadAtForkPoints answering = (site : Site) (x : StateId) (xs : List StateId) (k : List ℕ) (reads : List ForkRead) → IsSound site →
    IsTrue (list_all (is_kept site.dag site.collected) (x ∷ xs)) → answering site (Base (x ∷ xs) k) ≡ ForkReads reads →
    map (λ r. answering site (At r.fork_point k)) reads ≡ map (λ r. Read r.found) reads

-- and for an open merge of states that parted at no more than 8, these are the fork points that its session is shown
abbrev pub MergesFindTheirBase : Answering → Type 0
MergesFindTheirBase answering = (site : Site) (n : ℕ) (t : MergeTxn) (k : List ℕ) → IsSound site → entry_of n site.txns ≡ Some (Merge t) →
    length (fork_points site.dag t.states) ≤ 8 →
    let points = points_told (answering site (Base t.states k)) in
    (step site n AsksForkPoints).1 ≡ States (length points) points

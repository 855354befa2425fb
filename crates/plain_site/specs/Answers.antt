-- The words in which the step is told: a site with a reply, and what goes before it.
use Rattle.std.specs.Prelude.{ℕ, Bool, true, false, not, List, [], ◌∷◌, Option, Some, None}
use Rattle.tardis_base.specs.declared.ids.StateId.{StateId}
use Rattle.tardis_base.specs.declared.records.Write.{Write}
use Rattle.tardis_base.specs.declared.records.Write.TheVariants.{Put, Delete}
use Rattle.tardis_base.specs.declared.records.Item.TheVariants.{State}
use Rattle.tardis_base.specs.declared.requests.Request.{Request}
use Rattle.tardis_base.specs.declared.requests.Request.TheVariants.{Deliver}
use Rattle.tardis_base.specs.declared.replies.Refusal.{Refusal}
use Rattle.tardis_base.specs.declared.replies.Refusal.TheVariants.{NotOpen, TxnOpen, NoTxn}
use Rattle.tardis_base.specs.declared.replies.Reply.{Reply}
use Rattle.tardis_base.specs.declared.replies.Reply.TheVariants.{Value, Deleted, Absent, Refused, Known, Early}
use Rattle.plain_dag.specs.Entries.{entry_of}
use Rattle.plain_dag.specs.Floors.{Session}
use Rattle.plain_site.specs.Site.{Site, Txn}

-- the site after a step, and the reply
abbrev pub Answer : Type 0
Answer = Site × Reply

-- a refusal, which leaves the site as it is
abbrev pub refused : Site → Refusal → Answer
refused site refusal = (site, Refused refusal)

-- the reply, where the test holds
abbrev pub when : Bool → Reply → Option Reply
when true reply = Some reply
when false reply = None

-- the refusal, where the test holds
abbrev pub refuse : Bool → Refusal → Option Reply
refuse test refusal = when test (Refused refusal)

-- the refusal of what was found
abbrev pub refuse_found : {A : Type 0} → (A → Refusal) → Option A → Option Reply
refuse_found refusal None = None
refuse_found refusal (Some a) = Some (Refused (refusal a))

-- the first of these replies, which leaves the site as it is; without one, the answer
abbrev pub unless : Site → List (Option Reply) → Answer → Answer
unless site [] answer = answer
unless site (None ∷ more) answer = unless site more answer
unless site (Some reply ∷ more) answer = (site, reply)

-- the use of what is there; where nothing is, the answer
abbrev pub given : {A : Type 0} → Option A → Answer → (A → Answer) → Answer
given None answer use_of = answer
given (Some a) answer use_of = use_of a

-- for a session that is open
abbrev pub with_session : Site → ℕ → (Session → Answer) → Answer
with_session site n go = given (entry_of n site.sessions) (refused site NotOpen) go

-- for an open session with a transaction
abbrev pub with_txn : Site → ℕ → (Session → Txn → Answer) → Answer
with_txn site n go = with_session site n (λ s. given (entry_of n site.txns) (refused site NoTxn) (go s))

-- for an open session without one
abbrev pub without_txn : Site → ℕ → (Session → Answer) → Answer
without_txn site n go = with_session site n (λ s. given (entry_of n site.txns) (go s) (λ t. refused site TxnOpen))

-- the reply to a read of what this state wrote
abbrev pub shown : StateId → Write → Reply
shown x (Put value) = Value x value
shown x Delete = Deleted x

-- the reply to a read
abbrev pub found : Option (StateId × Write) → Reply
found None = Absent
found (Some version) = shown version.0 version.1

-- the reply says that what was delivered came before what it needs
abbrev pub says_early : Reply → Bool
says_early (Early have) = true
says_early _ = false

-- the request delivers a record
abbrev pub delivers_record : Request → Bool
delivers_record (Deliver (State r)) = true
delivers_record _ = false

-- the reply says that nothing was changed; so does Early, unless it answers the delivery of a record, which then waits
abbrev pub says_unchanged : Bool → Reply → Bool
says_unchanged of_record (Refused refusal) = true
says_unchanged of_record Known = true
says_unchanged of_record (Early have) = not of_record
says_unchanged of_record _ = false

-- the reply to this request says that nothing was changed
abbrev pub leaves_site : Request → Reply → Bool
leaves_site q reply = says_unchanged (delivers_record q) reply

-- Transactions end.
use Rattle.std.specs.Prelude.{ℕ, ◌==◌, not, List, [], ◌∷◌, ◌++◌, length, Option}
use Rattle.tardis_base.specs.declared.ids.StateId.{StateId}
use Rattle.tardis_base.specs.declared.records.Record.{Record}
use Rattle.tardis_base.specs.declared.requests.EndFlags.{EndFlags}
use Rattle.tardis_base.specs.declared.replies.Refusal.TheVariants.{WrongMode, OpenConflict, Branches, SeqEnd}
use Rattle.tardis_base.specs.declared.replies.Reply.{Reply}
use Rattle.tardis_base.specs.declared.replies.Reply.TheVariants.{Done, Committed, Ended}
use Rattle.tardis_base.specs.Keys.{KeyWrite, keys_of}
use Rattle.plain_dag.specs.States.{children}
use Rattle.plain_dag.specs.Conflicts.{open_conflict}
use Rattle.plain_dag.specs.Landing.{landing, guarded, broken}
use Rattle.plain_dag.specs.Entries.{changed, without_entry}
use Rattle.plain_dag.specs.Floors.{after_commit}
use Rattle.plain_dag.specs.Growth.{growth_refusal}
use Rattle.plain_site.specs.Site.{Site, SingleTxn, MergeTxn, Txn, Single, Merge, own_count, next_record}
use Rattle.plain_site.specs.Answers.{Answer, refuse, refuse_found, unless}

-- the session's transaction is gone
abbrev pub without_txn_of : ℕ → Site → Site
without_txn_of n site = record site { txns = without_entry n site.txns }

abbrev pub abort : Site → ℕ → Answer
abort site n = (without_txn_of n site, Done)

-- the record has arrived
abbrev pub with_record : Record → Site → Site
with_record r site = record site { dag = r ∷ site.dag }

-- why the site doesn't grow by the record
abbrev pub growth_refusals : Site → Record → List (Option Reply)
growth_refusals site r = refuse_found (λ f. f) (growth_refusal site.limits site.collected site.dag r) ∷ []

-- the next state of the site, which the session committed
abbrev pub committed : Site → ℕ → Record → Answer
committed site n r = (
  record site {
    dag = r ∷ site.dag;
    sessions = changed n (after_commit (r ∷ site.dag) r.id) site.sessions;
    txns = without_entry n site.txns;
  },
  Committed r.id r.parents,
)

-- the next state of the site joins below these parents, after the refusals that go before
abbrev pub commit_below : Site → ℕ → List StateId → List KeyWrite → List (Option Reply) → Answer
commit_below site n parents writes refusals =
    let r = next_record site parents writes in
    unless site (refusals ++ refuse (own_count site == 4294967295) SeqEnd ∷ growth_refusals site r) (committed site n r)

-- a single transaction commits below its landing, unless that has too many children
abbrev pub commit_at : Site → ℕ → SingleTxn → EndFlags → ℕ → StateId → Answer
commit_at site n t flags k x =
    let number_of_children = length (children site.dag x) in
    commit_below site n (x ∷ []) t.writes (refuse_found (λ c. Branches c x number_of_children) (broken flags k number_of_children) ∷ [])

-- a single transaction with writes
abbrev pub commit_writes : Site → ℕ → SingleTxn → EndFlags → ℕ → Answer
commit_writes site n t flags k = commit_at site n t flags k (landing site.dag (guarded flags t.reads (keys_of t.writes)) t.state)

-- a single transaction without writes ends, and makes no state; its end constraints aren't looked at
abbrev pub commit_single : Site → ℕ → SingleTxn → EndFlags → ℕ → Answer
commit_single site n t flags k = elim t.writes [ [] ↦ (without_txn_of n site, Ended t.state) | w ∷ ws ↦ commit_writes site n t flags k ]

-- a merge commits below all its read states; it takes no end constraint, and writes each conflict key of its read states
abbrev pub commit_merge : Site → ℕ → MergeTxn → EndFlags → Answer
commit_merge site n t flags =
    commit_below site n t.states t.writes
    (refuse (not (flags.0 == 0)) WrongMode ∷ refuse_found OpenConflict (open_conflict site.dag t.states t.writes) ∷ [])

abbrev pub commit : Site → ℕ → Txn → EndFlags → ℕ → Answer
commit site n (Single t) flags k = commit_single site n t flags k
commit site n (Merge t) flags k = commit_merge site n t flags

-- The merge of a session, and what it tells of its states.
use Rattle.std.proofs.Common.{ℕ, ◌∙◌}
use Rattle.state_dag.specs.Table.{Table}
use Rattle.merge_txn.specs.declared.Txn.TheVariants.{Single as KeptSingle}
use Rattle.merge_txn.specs.declared.SingleTxn.{SingleTxn as OneKept}
use Rattle.tardis_base.specs.declared.replies.Refusal.{Refusal}
use Rattle.tardis_base.specs.declared.replies.Refusal.TheVariants.{WrongMode}
use Rattle.plain_site.specs.Site.{Site}
use Rattle.session_core.specs.Guards.{HasTxn, RefusesTxns}
use Rattle.session_core.specs.Merges.{RefusesMerges}
use Rattle.session_core.specs.Stands.{txn_of}
use Rattle.session_core.proofs.Standing.{txn-answer}

-- a single transaction is refused
pub single-refused : (table : Table) (site : Site) (n : ℕ) (t : OneKept) → HasTxn table site n (KeptSingle t) → RefusesMerges site n WrongMode
single-refused table site n t has go only =
    txn-answer site n go has.session (txn_of (KeptSingle t)) has.opened has.found
    ∙ only has.session (record { state = t.state; reads = t.reads; writes = t.writes })

-- what refuses all transactions refuses merges
pub merges-too : (site : Site) (n : ℕ) (refusal : Refusal) → RefusesTxns site n refusal → RefusesMerges site n refusal
merges-too site n refusal refuses go only = refuses go

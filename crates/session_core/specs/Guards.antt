-- What the guards of a request find, and what is refused with what they refuse.
use Rattle.std.specs.Prelude.{◌≡◌, ℕ, Some}
use Rattle.tardis_base.specs.declared.replies.Refusal.{Refusal}
use Rattle.plain_dag.specs.Entries.{entry_of}
use Rattle.plain_dag.specs.Floors.{Session}
use Rattle.state_dag.specs.Table.{Table}
use Rattle.merge_txn.specs.declared.Txn.{Txn as Kept}
use Rattle.plain_site.specs.Site.{Site, Txn}
use Rattle.plain_site.specs.Answers.{Answer, refused, with_session, with_txn, without_txn}
use Rattle.session_core.specs.Stands.{txn_of}
use Rattle.session_core.specs.Txns.{IsNamed}

-- the session is open and has this transaction, whose slots are those of the states that it reads
pub record HasTxn (table : Table) (site : Site) (n : ℕ) (kept : Kept) : Type 0 where
  pub session : Session
  pub opened : entry_of n site.sessions ≡ Some session
  pub found : entry_of n site.txns ≡ Some (txn_of kept)
  pub named : IsNamed table kept

-- whatever needs a session is refused with this
abbrev pub RefusesAll : Site → ℕ → Refusal → Type 0
RefusesAll site n refusal = (go : Session → Answer) → with_session site n go ≡ refused site refusal

-- whatever needs a transaction is refused with this
abbrev pub RefusesTxns : Site → ℕ → Refusal → Type 0
RefusesTxns site n refusal = (go : Session → Txn → Answer) → with_txn site n go ≡ refused site refusal

-- whatever begins a transaction is refused with this
abbrev pub RefusesBegins : Site → ℕ → Refusal → Type 0
RefusesBegins site n refusal = (go : Session → Answer) → without_txn site n go ≡ refused site refusal

-- What the machine over the parts stands for, and what it answers.
use Rattle.std.specs.Prelude.{◌≡◌, ℕ, List, [], Some, None, Result, Ok, Err}
use Rattle.tardis_base.specs.declared.replies.Reply.{Reply}
use Rattle.tardis_base.specs.declared.ids.Slot.{Slot}
use Rattle.tardis_base.specs.declared.ids.StateId.{StateId}
use Rattle.tardis_base.specs.declared.records.Write.{Write}
use Rattle.tardis_base.specs.declared.records.Write.TheVariants.{Put as Value, Delete as Deletion}
use Rattle.tardis_base.specs.declared.requests.Request.{Request}
use Rattle.tardis_base.specs.declared.requests.Request.TheVariants.{Put, Delete}
use Rattle.wire_talk.specs.Spellings.{reply_spelling}
use Rattle.tardis_base.specs.Keys.{write_of}
use Rattle.plain_dag.specs.Entries.{entry_of}
use Rattle.plain_dag.specs.Writers.{read}
use Rattle.state_dag.specs.Table.{id_at}
use Rattle.merge_txn.specs.declared.SingleTxn.{SingleTxn as OneKept}
use Rattle.merge_txn.specs.declared.Txn.TheVariants.{Single as KeptSingle}
use Rattle.plain_site.specs.Site.{Site, opening, with_txn_changed}
use Rattle.plain_site.specs.Sound.{IsSound}
use Rattle.plain_site.specs.Answers.{Answer, with_txn, found}
use Rattle.plain_site.specs.Reads.{get, having_read}
use Rattle.plain_site.specs.Step.{step}
pub use Rattle.stored_site.specs.Gives.{IsTold}
use Rattle.session_core.specs.Core.{Core}
use Rattle.session_core.specs.Gives.{Stops, GivesOrStops}
use Rattle.session_core.specs.Stands.{CoreStands}
use Rattle.site_answers.specs.declared.stops.Stop.{Stop}

-- it stands for the plain site, which is sound
abbrev pub SiteStands : Core → Site → Type 0
SiteStands core site = CoreStands core site × IsSound site

-- the plain site with which it opened, by its limits and its own number
abbrev pub opened_with : Core → Site
opened_with core = opening core.store.table.limits core.book.own

-- the plain answer, its reply in bytes; or there was no memory, and no byte
abbrev pub GivesBytes : {E : Type 0} → (Site → Type 0) → Answer → Site → Result (Unit {0}) E → List ℕ → Type 0
GivesBytes stands answer old (Ok done) bytes = stands answer.0 × (bytes ≡ reply_spelling answer.1)
GivesBytes stands answer old (Err fault) bytes = stands old × (bytes ≡ [])

-- the answer to a read of the key
abbrev pub reading : Site → ℕ → List ℕ → Answer
reading site n k = with_txn site n (λ s t. get site n t k)

-- the request to write to the key
abbrev pub writing : List ℕ → Write → Request
writing k (Value v) = Put k v
writing k Deletion = Delete k

-- the plain answer, its reply in bytes; or a stop, and no byte
abbrev pub WritesOrStops : (Site → Type 0) → Answer → Site → Result (Unit {0}) Stop → List ℕ → Type 0
WritesOrStops stands answer old (Ok done) bytes = stands answer.0 × (bytes ≡ reply_spelling answer.1)
WritesOrStops stands answer old (Err stop) bytes = Stops stands answer old stop × (bytes ≡ [])

-- the read of a single transaction at x is noted, and the plain answer is what is read there; or a stop
abbrev pub NotesOrStops : (Site → Type 0) → Site → ℕ → List ℕ → StateId → Result (Unit {0}) Stop → Type 0
NotesOrStops stands site n k x (Ok done) =
    (reading site n k ≡ (with_txn_changed n (having_read k) site, found (read site.dag k x))) × stands (with_txn_changed n (having_read k) site)
NotesOrStops stands site n k x (Err stop) = Stops stands (reading site n k) site stop

-- the session's single transaction, which hasn't written to the key, reads it, and the read is noted
abbrev pub NotesRead : Core → Core → ℕ → List ℕ → Result (Unit {0}) Stop → Type 0
NotesRead old new n k result =
    (site : Site) → CoreStands old site → IsSound site → (t : OneKept) → entry_of n old.txns ≡ Some (KeptSingle t) → write_of k t.writes ≡ None →
    NotesOrStops (CoreStands new) site n k t.state result

-- so at this slot, which is that of the state that it reads, and the plain answer is given
abbrev pub ReadsAt : Core → Core → ℕ → Slot → List ℕ → Result Reply Stop → Type 0
ReadsAt old new n slot k result =
    (site : Site) → CoreStands old site → IsSound site → (t : OneKept) → entry_of n old.txns ≡ Some (KeptSingle t) → write_of k t.writes ≡ None →
    id_at old.store.table slot ≡ Some t.state → GivesOrStops (CoreStands new) (reading site n k) site result

-- the reply to the request is written, or a stop and no byte
abbrev pub Wrote : Core → Core → ℕ → Request → Result (Unit {0}) Stop → List ℕ → Type 0
Wrote old new n q result out = (site : Site) → CoreStands old site → IsSound site → WritesOrStops (CoreStands new) (step site n q) site result out

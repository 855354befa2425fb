-- Reads that are noted.
use Rattle.std.specs.Prelude.{◌≡◌, ℕ, false, List, Some, None}
use Rattle.tardis_base.specs.declared.ids.Slot.{Slot}
use Rattle.tardis_base.specs.declared.ids.StateId.{StateId}
use Rattle.tardis_base.specs.declared.records.Record.{Record}
use Rattle.tardis_base.specs.declared.readings.Found.{Found as What}
use Rattle.plain_dag.specs.Entries.{entry_of, changed}
use Rattle.plain_dag.specs.Writers.{read}
use Rattle.state_dag.specs.Table.{id_at}
use Rattle.version_list.specs.Reads.{found}
use Rattle.record_store.specs.Store.{Store}
use Rattle.record_store.specs.Stands.{StoreStands}
use Rattle.merge_txn.specs.declared.Txn.{Txn}
use Rattle.merge_txn.specs.Txns.{reads_of, has_no_place_to_read, read_fault}
use Rattle.session_core.specs.declared.transactions.NotedRead.{NotedRead}
use Rattle.session_core.specs.declared.transactions.NotedRead.TheVariants.{Found, Fault, Other}
use Rattle.txn_book.specs.Txns.{slot_read, noting}

-- this is what is read of the key at the slot
abbrev pub FindsAt : Store → Slot → List ℕ → What → Type 0
FindsAt store slot k what =
    (rs : List Record) (ks : List StateId) → StoreStands store rs ks
    → (x : StateId) → id_at store.table slot ≡ Some x
    → found what ≡ read rs k x

-- the transaction notes the read, and this is found at its slot; or it can't note it; or it is none that notes the read
abbrev pub TxnReads : Store → Txn → Txn → List ℕ → NotedRead → Type 0
TxnReads store old new k (Found what) =
    (slot : Slot) × (slot_read k old ≡ Some slot)
    × FindsAt store slot k what
    × (has_no_place_to_read k (reads_of old) ≡ false) × (new ≡ noting k old)
TxnReads store old new k (Fault fault) = (slot : Slot) × (slot_read k old ≡ Some slot) × (fault ≡ read_fault k (reads_of old)) × (new ≡ old)
TxnReads store old new k (Other key) = (slot_read k old ≡ None) × (key ≡ k) × (new ≡ old)

-- so for the transaction of the session
abbrev pub ReadsIn : Store → List (ℕ × Txn) → List (ℕ × Txn) → ℕ → List ℕ → NotedRead → Type 0
ReadsIn store old new n k (Found what) =
    (t : Txn) × (entry_of n old ≡ Some t)
    × (slot : Slot) × (slot_read k t ≡ Some slot)
    × FindsAt store slot k what
    × (has_no_place_to_read k (reads_of t) ≡ false) × (new ≡ changed n (noting k) old)
ReadsIn store old new n k (Fault fault) =
    (t : Txn) × (entry_of n old ≡ Some t) × (slot : Slot) × (slot_read k t ≡ Some slot) × (fault ≡ read_fault k (reads_of t)) × (new ≡ old)
ReadsIn store old new n k (Other key) = ((t : Txn) → entry_of n old ≡ Some t → slot_read k t ≡ None) × (key ≡ k) × (new ≡ old)

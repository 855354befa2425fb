-- What an open transaction reads and writes, and how the book of them changes.
use Rattle.std.specs.Prelude.{◌≡◌, ℕ, Bool, false, List, Option, Some, None, Result, Ok, Err, if◌then◌else◌}
use Rattle.tardis_base.specs.declared.records.Write.{Write}
use Rattle.tardis_base.specs.declared.ids.Slot.{Slot}
use Rattle.tardis_base.specs.Keys.{with_key, with_write, write_of}
use Rattle.plain_dag.specs.Entries.{entry_of, changed}
use Rattle.merge_txn.specs.declared.Txn.{Txn}
use Rattle.merge_txn.specs.declared.Txn.TheVariants.{Single, Merge}
use Rattle.merge_txn.specs.declared.TxnFault.{TxnFault}
use Rattle.merge_txn.specs.declared.TxnFault.TheVariants.{NoMemory}
use Rattle.merge_txn.specs.Txns.{writes_of, reads_of, with_writes, with_reads, has_no_place_to_write, has_no_place_to_read, too_many_writes, too_many_reads}

-- the slot, where nothing is written
abbrev pub slot_unless : Option Write → Slot → Option Slot
slot_unless None slot = Some slot
slot_unless (Some w) slot = None

-- the slot at which the transaction reads the key and notes it: that of a single one, which hasn't written to the key
abbrev pub slot_read : List ℕ → Txn → Option Slot
slot_read k (Single t) = slot_unless (write_of k t.writes) t.slot
slot_read k (Merge t) = None

-- the transaction has read the key; a merge doesn't keep it
abbrev pub noting : List ℕ → Txn → Txn
noting k t = with_reads (with_key k (reads_of t)) t

-- the transaction has written to the key
abbrev pub putting : List ℕ → Write → Txn → Txn
putting k w t = with_writes (with_write k w (writes_of t)) t

-- there was a place, and the session's transaction is changed; or there was no place, or else no memory, and all is as before
abbrev pub ChangedAs : List (ℕ × Txn) → List (ℕ × Txn) → ℕ → (Txn → Txn) → Bool → TxnFault → Result Unit TxnFault → Type 0
ChangedAs old new n f full too_many (Ok done) = (full ≡ false) × (new ≡ changed n f old)
ChangedAs old new n f full too_many (Err fault) = (fault ≡ (if full then too_many else NoMemory)) × (new ≡ old)

-- the session's transaction has read the key, which 256 others may not have been; or it has no transaction, and all is as before
abbrev pub NotedAs : List (ℕ × Txn) → List (ℕ × Txn) → ℕ → List ℕ → Option (Result Unit TxnFault) → Type 0
NotedAs old new n k (Some noted) =
    (t : Txn) × (entry_of n old ≡ Some t)
    × ChangedAs old new n (noting k) (has_no_place_to_read k (reads_of t)) too_many_reads noted
NotedAs old new n k None = (entry_of n old ≡ None) × (new ≡ old)

-- the session's transaction has written to the key, beside at most 63 others; or it has no transaction, and all is as before
abbrev pub PutAs : List (ℕ × Txn) → List (ℕ × Txn) → ℕ → List ℕ → Write → Option (Result Unit TxnFault) → Type 0
PutAs old new n k w (Some put) =
    (t : Txn) × (entry_of n old ≡ Some t)
    × ChangedAs old new n (putting k w) (has_no_place_to_write k (writes_of t)) too_many_writes put
PutAs old new n k w None = (entry_of n old ≡ None) × (new ≡ old)

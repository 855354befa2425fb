-- What becomes of the transaction in a place.
use Rattle.std.specs.Prelude.{◌≡◌, Bool, false, ℕ, List, Option, Some, None, Result, Ok, Err, if◌then◌else◌}
use Rattle.tardis_base.specs.declared.records.Write.{Write}
use Rattle.merge_txn.specs.declared.Txn.{Txn}
use Rattle.merge_txn.specs.declared.TxnFault.{TxnFault}
use Rattle.merge_txn.specs.declared.TxnFault.TheVariants.{NoMemory}
use Rattle.merge_txn.specs.Txns.{writes_of, reads_of, has_no_place_to_write, has_no_place_to_read, too_many_writes, too_many_reads}
use Rattle.txn_book.specs.Txns.{noting, putting}

-- it is changed, or it was full or there is no memory, and it is as before; or there is none
abbrev pub ChangedAtPlace : Option Txn → Option Txn → (Txn → Txn) → (Txn → Bool) → TxnFault → Option (Result Unit TxnFault) → Type 0
ChangedAtPlace old new f full too_many (Some (Ok done)) = (t : Txn) × (old ≡ Some t) × (full t ≡ false) × (new ≡ Some (f t))
ChangedAtPlace old new f full too_many (Some (Err fault)) =
    (t : Txn) × (old ≡ Some t) × (fault ≡ (if full t then too_many else NoMemory)) × (new ≡ Some t)
ChangedAtPlace old new f full too_many None = (old ≡ None) × (new ≡ None)

abbrev pub NotedAtPlace : Option Txn → Option Txn → List ℕ → Option (Result Unit TxnFault) → Type 0
NotedAtPlace old new k noted = ChangedAtPlace old new (noting k) (λ t. has_no_place_to_read k (reads_of t)) too_many_reads noted

abbrev pub PutAtPlace : Option Txn → Option Txn → List ℕ → Write → Option (Result Unit TxnFault) → Type 0
PutAtPlace old new k w put = ChangedAtPlace old new (putting k w) (λ t. has_no_place_to_write k (writes_of t)) too_many_writes put

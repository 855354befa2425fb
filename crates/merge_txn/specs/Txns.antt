-- What a transaction holds, and when it is full.
use Rattle.std.specs.Prelude.{ℕ, Bool, ◌+◌, ◌==◌, ◌&&◌, not, List, [], if◌then◌else◌, length}
use Rattle.tardis_base.specs.declared.replies.Excess.TheVariants.{WrittenKeys, ReadKeys}
use Rattle.tardis_base.specs.Sizes.{most_reads, most_writes}
use Rattle.tardis_base.specs.Keys.{KeyWrite, is_key_among, has_key}
use Rattle.merge_txn.specs.declared.Txn.{Txn}
use Rattle.merge_txn.specs.declared.Txn.TheVariants.{Single, Merge}
use Rattle.merge_txn.specs.declared.TxnFault.{TxnFault}
use Rattle.merge_txn.specs.declared.TxnFault.TheVariants.{TooMany, NoMemory}

-- what it writes, by ascending keys
abbrev pub writes_of : Txn → List KeyWrite
writes_of (Single t) = t.writes
writes_of (Merge t) = t.writes

-- the keys whose reads are noted; a merge notes none
abbrev pub reads_of : Txn → List (List ℕ)
reads_of (Single t) = t.reads
reads_of (Merge t) = []

-- the transaction with these writes, all else the same
abbrev pub with_writes : List KeyWrite → Txn → Txn
with_writes ws (Single t) = Single (record t { writes = ws })
with_writes ws (Merge t) = Merge (record t { writes = ws })

-- the transaction with these reads, if it notes reads, all else the same
abbrev pub with_reads : List (List ℕ) → Txn → Txn
with_reads ks (Single t) = Single (record t { reads = ks })
with_reads ks (Merge t) = Merge t

-- the key isn't among these written ones, and they are as many as may be
abbrev pub has_no_place_to_write : List ℕ → List KeyWrite → Bool
has_no_place_to_write k ws = length ws == most_writes && not (has_key k ws)

-- the key isn't among these read ones, and they are as many as may be
abbrev pub has_no_place_to_read : List ℕ → List (List ℕ) → Bool
has_no_place_to_read k ks = length ks == most_reads && not (is_key_among k ks)

-- one key more than a transaction may write
abbrev pub too_many_writes : TxnFault
too_many_writes = TooMany WrittenKeys (most_writes + 1)

-- one key more than a transaction may read
abbrev pub too_many_reads : TxnFault
too_many_reads = TooMany ReadKeys (most_reads + 1)

-- why a write isn't taken: there are too many, or else memory is wanting
abbrev pub put_fault : List ℕ → List KeyWrite → TxnFault
put_fault k ws = if has_no_place_to_write k ws then too_many_writes else NoMemory

-- why a read isn't noted: there are too many, or else memory is wanting
abbrev pub read_fault : List ℕ → List (List ℕ) → TxnFault
read_fault k ks = if has_no_place_to_read k ks then too_many_reads else NoMemory

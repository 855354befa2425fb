-- Transactions read and write.
use Rattle.std.specs.Prelude.{ℕ, ◌+◌, ◌==◌, ◌&&◌, not, List, [], ◌∷◌, length}
use Rattle.tardis_base.specs.declared.records.Write.{Write}
use Rattle.tardis_base.specs.declared.ids.StateId.{StateId}
use Rattle.tardis_base.specs.declared.replies.Excess.TheVariants.{WrittenKeys, ReadKeys}
use Rattle.tardis_base.specs.declared.replies.Refusal.{Refusal}
use Rattle.tardis_base.specs.declared.replies.Refusal.TheVariants.{TooMany, ConflictKey, NotRead, WrongMode}
use Rattle.tardis_base.specs.declared.replies.Reply.TheVariants.{Done}
use Rattle.tardis_base.specs.Sizes.{most_reads, most_writes}
use Rattle.tardis_base.specs.Ids.{root, is_among}
use Rattle.tardis_base.specs.Keys.{is_key_among, with_key, has_key, write_of, with_write}
use Rattle.plain_dag.specs.Writers.{read}
use Rattle.plain_dag.specs.Conflicts.{is_conflict_key, value_over}
use Rattle.plain_site.specs.Site.{Site, SingleTxn, MergeTxn, Txn, Single, Merge, writes_of, with_txn_changed}
use Rattle.plain_site.specs.Answers.{Answer, refused, refuse, unless, given, shown, found}

-- the transaction has read the key; a merge doesn't keep it
abbrev pub having_read : List ℕ → Txn → Txn
having_read k (Single t) = Single (record t { reads = with_key k t.reads })
having_read k (Merge t) = Merge t

-- the transaction has written to the key
abbrev pub having_written : List ℕ → Write → Txn → Txn
having_written k w (Single t) = Single (record t { writes = with_write k w t.writes })
having_written k w (Merge t) = Merge (record t { writes = with_write k w t.writes })

-- one key more than a transaction may read
abbrev pub too_many_reads : Refusal
too_many_reads = TooMany ReadKeys (most_reads + 1)

-- one key more than a transaction may write
abbrev pub too_many_writes : Refusal
too_many_writes = TooMany WrittenKeys (most_writes + 1)

-- a single transaction reads at its state, and keeps the key, whatever was found; it may keep so many
abbrev pub read_at : Site → ℕ → SingleTxn → List ℕ → Answer
read_at site n t k =
    unless site
    (refuse (length t.reads == most_reads && not (is_key_among k t.reads)) too_many_reads ∷ [])
    (with_txn_changed n (having_read k) site, found (read site.dag k t.state))

-- a merge reads over its states, unless they conflict
abbrev pub read_over : Site → MergeTxn → List ℕ → Answer
read_over site t k =
    unless site (refuse (is_conflict_key site.dag t.states k) (ConflictKey k) ∷ []) (site, found (value_over site.dag t.states k))

abbrev pub read_in : Site → ℕ → Txn → List ℕ → Answer
read_in site n (Single t) k = read_at site n t k
read_in site n (Merge t) k = read_over site t k

-- an own write is read first; the root stands for its writer, and the key isn't kept as read
abbrev pub get : Site → ℕ → Txn → List ℕ → Answer
get site n t k = given (write_of k (writes_of t)) (read_in site n t k) (λ w. (site, shown root w))

-- a transaction writes to so many keys at most
abbrev pub set_key : Site → ℕ → Txn → List ℕ → Write → Answer
set_key site n t k w =
    unless site
    (refuse (length (writes_of t) == most_writes && not (has_key k (writes_of t))) too_many_writes ∷ [])
    (with_txn_changed n (having_written k w) site, Done)

-- the read of the key at one of a merge's read states, own writes aside
abbrev pub get_for : Site → Txn → List ℕ → StateId → Answer
get_for site (Single t) k x = refused site WrongMode
get_for site (Merge t) k x = unless site (refuse (not (is_among x t.states)) (NotRead x) ∷ []) (site, found (read site.dag k x))

-- What becomes of the transaction in a place that is read.
use Rattle.std.specs.Prelude.{◌≡◌, ℕ, List, Option, Some, None}
use Rattle.merge_txn.specs.declared.Txn.{Txn}
use Rattle.record_store.specs.Store.{Store}
use Rattle.session_core.specs.declared.transactions.NotedRead.{NotedRead}
use Rattle.session_core.specs.declared.transactions.NotedRead.TheVariants.{Other}
use Rattle.session_core.specs.NotedReads.{TxnReads}

-- it reads the key; where there is none, the key is given back
abbrev pub ReadsAtPlace : Store → Option Txn → Option Txn → List ℕ → NotedRead → Type 0
ReadsAtPlace store old (Some u) k read = (t : Txn) × (old ≡ Some t) × TxnReads store t u k read
ReadsAtPlace store old None k read = (old ≡ None) × (read ≡ Other k)

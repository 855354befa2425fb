-- What a site in memory holds.
use Rattle.std.specs.Prelude.{ℕ, List}
use Rattle.tardis_base.specs.declared.records.Record.{Record}
use Rattle.record_store.specs.Store.{Store}
use Rattle.ceiling_book.specs.Book.{Book}
use Rattle.merge_txn.specs.declared.Txn.{Txn}

-- the store of states and versions; the book of sessions and floors; the open transactions by the numbers of their
-- sessions; the records that wait
pub record Core : Type 0 where
  pub store : Store
  pub book : Book
  pub txns : List (ℕ × Txn)
  pub waiting : List Record

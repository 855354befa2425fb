-- What holds of the parts of a site at all times.
use Rattle.std.specs.Prelude.{◌≡◌, ℕ, length, Some, IsTrue}
use Rattle.std.specs.List.{list_all}
use Rattle.tardis_base.specs.Valid.{is_record}
use Rattle.plain_dag.specs.Entries.{entry_of}
use Rattle.ceiling_book.specs.Book.{floors_of}
use Rattle.ceiling_book.specs.Places.{AreSlots}
use Rattle.session_core.specs.declared.Parts.TheInside.{Inside}
use Rattle.merge_txn.specs.declared.Txn.{Txn}
use Rattle.session_core.specs.Txns.{has_slots}
use Rattle.session_core.specs.Core.{Core}

-- what the memory is seen as
abbrev pub seen : Inside → Core
seen a = record { store = a.store; book = a.book; txns = a.txns; waiting = a.waiting }

-- each slot of the book and of a transaction is one of the table's, there is a floor for each site, and
-- each waiting record is such as a request may carry
pub record IsHeld (a : Inside) : Type 0 where
  pub places : AreSlots a.book a.store.table
  pub slots : (n : ℕ) (t : Txn) → entry_of n a.txns ≡ Some t → IsTrue (has_slots a.store.table t)
  pub floors : length (floors_of a.book) ≡ a.store.table.limits.sites
  pub room : IsTrue (list_all is_record a.waiting)

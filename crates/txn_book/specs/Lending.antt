-- What the book is once the place of a session's transaction, which was lent, is given back.
use Rattle.std.specs.Prelude.{◌≡◌, ℕ, List, Option, Some, None, OnSome}
use Rattle.std.specs.Borrow.{LendsSo, MutBor, Fml}
use Rattle.std.specs.contracts.option.Option as option
use Rattle.plain_dag.specs.Entries.{entry_of, with_entry, changed, without_entry}
use Rattle.merge_txn.specs.declared.Txn.{Txn}
use Rattle.merge_txn.specs.contracts.Txn as txn
use Rattle.txn_book.specs.contracts.TxnBook.{the_row}

-- What the session has is what was left in its place: what it had, and all is as before; or nothing; or another one; or
-- what it had, changed.
pub record Leaves (old new : List (ℕ × Txn)) (n : ℕ) (left : Option Txn) : Type 0 where
  pub same : left ≡ entry_of n old → new ≡ old
  pub ended : left ≡ None → new ≡ without_entry n old
  pub begun : (t : Txn) → entry_of n old ≡ None → left ≡ Some t → new ≡ with_entry n t old
  pub changed_by : (t : Txn) (f : Txn → Txn) → entry_of n old ≡ Some t → left ≡ Some (f t) → new ≡ changed n f old

abbrev pub LendsPlace : MutBor (List (ℕ × Txn)) → ℕ → Option (MutBor (Option Txn)) → Fml
LendsPlace book n place =
    LendsSo the_row (option.the_row txn.the_row) book place (λ new left. OnSome place (Leaves book.now new n left)) (λ new. new ≡ book.now)

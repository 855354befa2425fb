use Rattle.std.proofs.Common.{◌∙◌, Some, ap}
use Rattle.plain_dag.specs.Entries.{with_entry}
use Rattle.txn_book.specs.Places.{open_of}
use Rattle.txn_book.proofs.Entries.{is-inserted}
use Rattle.txn_book.proofs.Places.{open-with}
use Rattle.txn_book.proofs.TxnBook.begin.Goals as goal

pub returns-clause-begun : goal.returns-clause-begun
returns-clause-begun c =
    let n = c.args.session in
    let es = c.self.inside.entries.entries in
    ap open_of (c.in_ok-before.ensures.entries ∙ is-inserted n (Some c.args.txn) es)
    ∙ open-with n c.args.txn es c.in_ok-before.ensures.was_ordered
    ∙ ap (with_entry n c.args.txn) c.self.view_is

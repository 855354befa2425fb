use Rattle.std.proofs.Common.{◌≡◌, ◌∙◌, None, Option, ap, subst}
use Rattle.std.specs.Map.{lookup}
use Rattle.std.specs.Ordering.{nat_cmp}
use Rattle.std.specs.BTreeMap.{is_at}
use Rattle.plain_dag.specs.Entries.{without_entry}
use Rattle.merge_txn.specs.declared.Txn.{Txn}
use Rattle.txn_book.specs.Places.{open_of}
use Rattle.txn_book.proofs.Entries.{is-removed}
use Rattle.txn_book.proofs.Places.{open-without}
use Rattle.txn_book.proofs.TxnBook.close.Goals as goal

pub returns : goal.returns
returns c =
    let n = c.args.session in
    let es = c.self.inside.entries.entries in
    let gone = subst (λ ds. ◌≡◌ {A = Option (Option Txn)} (lookup (is_at (nat_cmp n)) ds) None) c.remove.ensures.entries c.remove.ensures.updates.1 in
    ap open_of (c.remove.ensures.entries ∙ is-removed n es gone) ∙ open-without n es ∙ ap (without_entry n) c.self.view_is

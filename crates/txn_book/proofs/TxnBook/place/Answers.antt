use Rattle.std.proofs.Common.{◌∙◌, refl, ap}
use Rattle.txn_book.specs.Places.{open_of}
use Rattle.txn_book.proofs.Written.{lent-left, lent-there, lent-none}
use Rattle.txn_book.proofs.TxnBook.place.Goals as goal

pub returns : goal.returns
returns c =
    let n = c.args.session in
    let now = c.args.self.now in
    let es = c.self.inside.entries.entries in
    let is = c.self.view_is in
    let ordered = c.get_mut.ensures.ordered in
    let place = c.get_mut.result in
    let value = c.get_mut.ensures.value in (
      (
        refl,
        (λ w. lent-left n es now is ordered place value (c.get_mut.follows.lender w).entries w (c.get_mut.follows.holds w).0),
        ap (λ m. open_of m.entries) c.get_mut.follows.holds-at-none ∙ is,
      ),
      record { left = tt; there = lent-there n es now is ordered place value; none = lent-none n es now is ordered place value },
    )

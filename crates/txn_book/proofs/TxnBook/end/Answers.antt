use Rattle.std.proofs.Common.{◌∙◌, sym, ap}
use Rattle.std.specs.Option.{option_copied_mut}
use Rattle.txn_book.specs.Places.{open_of}
use Rattle.txn_book.proofs.Written.{nothing-ends, after-ended}
use Rattle.txn_book.proofs.TxnBook.end.Goals as goal
use Rattle.txn_book.proofs.TxnBook.end.Goals.{in-Some, in-None}

pub returns : goal.returns
returns c =
    let now = c.args.self.now in
    let n = c.args.session in
    let es = c.self.inside.entries.entries in
    elim c.match-get_mut.branch [
      | in-Some w ↦
          let found = sym c.get_mut.ensures.value ∙ ap option_copied_mut w.in-Some.is in
          let after = (c.get_mut.follows.lender w.empty.new.place).entries in
          let put = (c.get_mut.follows.holds w.empty.new.place).0 in
          ap (λ i. open_of i.entries.entries) w.self-inside-is
          ∙ after-ended n es after now w.in-Some.place.now w.empty.new.place c.self.view_is put c.get_mut.ensures.ordered found w.empty.ensures
      | in-None w ↦
          let none = sym c.get_mut.ensures.value ∙ ap option_copied_mut w.in-None.is in
          ap (λ i. open_of i.entries.entries) w.self-inside-is
          ∙ ap (λ m. open_of m.entries) c.get_mut.follows.holds-at-none
          ∙ nothing-ends n es now c.self.view_is none
    ]

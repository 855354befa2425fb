use Rattle.std.proofs.Common.{◌∙◌, None, sym, ap, subst}
use Rattle.std.specs.Option.{option_copied_mut}
use Rattle.txn_book.specs.Places.{open_of}
use Rattle.txn_book.specs.Txns.{NotedAs}
use Rattle.txn_book.proofs.Written.{nothing-there, is-noted}
use Rattle.txn_book.proofs.TxnBook.note_read.Goals as goal
use Rattle.txn_book.proofs.TxnBook.note_read.Goals.{in-Some, in-None}

pub returns : goal.returns
returns c =
    let now = c.args.self.now in
    let n = c.args.session in
    let k = c.args.key in
    let es = c.self.inside.entries.entries in
    elim c.match-get_mut.branch [
      | in-Some w ↦
          let found = sym c.get_mut.ensures.value ∙ ap option_copied_mut w.in-Some.is in
          let after = (c.get_mut.follows.lender w.note_at.new.place).entries in
          let put = (c.get_mut.follows.holds w.note_at.new.place).0 in
          subst (λ r. NotedAs now (open_of c.match-get_mut.self-inside.entries.entries) n k r) (sym w.result-is)
          (subst (λ i. NotedAs now (open_of i.entries.entries) n k w.note_at.result) (sym w.self-inside-is)
          (is-noted n es after now w.in-Some.place.now w.note_at.new.place c.self.view_is put c.get_mut.ensures.ordered found k w.note_at.result
          w.note_at.ensures))
      | in-None w ↦
          let none = sym c.get_mut.ensures.value ∙ ap option_copied_mut w.in-None.is in
          subst (λ r. NotedAs now (open_of c.match-get_mut.self-inside.entries.entries) n k r) (sym w.result-is)
          (subst (λ i. NotedAs now (open_of i.entries.entries) n k None) (sym w.self-inside-is)
          (nothing-there n es now c.self.view_is none, ap (λ m. open_of m.entries) c.get_mut.follows.holds-at-none ∙ c.self.view_is))
    ]

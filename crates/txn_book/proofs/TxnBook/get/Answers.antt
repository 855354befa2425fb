use Rattle.std.proofs.Common.{◌∙◌, Some, sym, ap}
use Rattle.std.specs.Option.{option_copied}
use Rattle.txn_book.proofs.Written.{is-there, nothing-left, nothing-there}
use Rattle.txn_book.proofs.TxnBook.get.Goals as goal

pub returns-in-Some-Some : goal.returns-in-Some-Some
returns-in-Some-Some c =
    sym (is-there c.args.session c.self.inside.entries.entries c.args.self.now c.in-Some-Some.txn c.self.view_is
    (sym c.get.ensures.value ∙ ap option_copied c.in-Some-Some.is ∙ ap Some c.in-Some-Some.field-0-is))

pub returns-in-Some-None : goal.returns-in-Some-None
returns-in-Some-None c =
    sym (nothing-left c.args.session c.self.inside.entries.entries c.args.self.now c.self.view_is c.len-places.ensures.ordered
    (sym c.get.ensures.value ∙ ap option_copied c.in-Some-None.is ∙ ap Some c.in-Some-None.field-0-is))

pub returns-in-None : goal.returns-in-None
returns-in-None c =
    sym (nothing-there c.args.session c.self.inside.entries.entries c.args.self.now c.self.view_is (sym c.get.ensures.value ∙ ap option_copied c.in-None.is))

use Rattle.std.proofs.Common.{◌∙◌, ap}
use Rattle.ceiling_book.specs.Book.{is_open}
use Rattle.ceiling_book.specs.Held.{seen}
use Rattle.ceiling_book.proofs.Keeping.{open-found}
use Rattle.ceiling_book.proofs.CeilingBook.is_open.Goals as goal

pub returns : goal.returns
returns c = c.contains_key.ensures ∙ open-found (seen c.self.inside) c.args.session ∙ ap (λ b. is_open b c.args.session) c.self.view_is

use Rattle.std.proofs.Common.{◌∙◌, sym, ap}
use Rattle.ceiling_book.specs.Book.{is_open}
use Rattle.ceiling_book.specs.Held.{seen}
use Rattle.ceiling_book.proofs.Entries.{looked-up}
use Rattle.ceiling_book.proofs.Keeping.{open-found}
use Rattle.plain_dag.specs.Entries.{entry_of}
use Rattle.ceiling_book.proofs.CeilingBook.session.Goals as goal

pub index-requires : goal.index-requires
index-requires c = open-found (seen c.self.inside) c.args.session ∙ ap (λ b. is_open b c.args.session) c.self.view_is ∙ c.requires

pub returns : goal.returns
returns c = ap (λ b. entry_of c.args.session b.sessions) (sym c.self.view_is) ∙ sym (looked-up c.args.session c.self.inside.sessions.entries) ∙ c.index.ensures

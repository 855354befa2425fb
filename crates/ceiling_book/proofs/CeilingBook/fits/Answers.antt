use Rattle.std.proofs.Common.{◌∙◌, ◌&&◌, is_none, sym, ap}
use Rattle.plain_dag.specs.Floors.{is_above_ceilings}
use Rattle.ceiling_book.specs.Book.{sessions_of}
use Rattle.ceiling_book.proofs.Moves.{holder-told}
use Rattle.ceiling_book.proofs.Newest.{none-told, held-by-none}
use Rattle.ceiling_book.proofs.CeilingBook.fits.Goals as goal

pub returns-then-not-is_ancestor : goal.returns-then-not-is_ancestor
returns-then-not-is_ancestor c = λ rs ks stands placed at x named.
    let told = c.is_ancestor.ensures.above rs ks stands c.args.floor.state x at named in
    sym (ap (λ b. b && is_above_ceilings rs (sessions_of c.args.self.now) x) (sym told ∙ c.if-not-is_ancestor.true))

pub returns : goal.returns
returns c = λ rs ks stands placed at x named.
    let told = c.is_ancestor.ensures.above rs ks stands c.args.floor.state x at named in
    let held = c.holder.ensures ∙ holder-told c.args.dag.now rs ks stands c.args.slot x named c.args.self.now placed in
    none-told c.is_none.result c.holder.result (sym c.is_none.ensures) ∙ ap is_none held ∙ held-by-none rs (sessions_of c.args.self.now) x
    ∙ sym (ap (λ b. b && is_above_ceilings rs (sessions_of c.args.self.now) x) (sym told ∙ c.if-not-is_ancestor.false))

use Rattle.std.proofs.Common.{◌∙◌, refl, sym, ap}
use Rattle.plain_dag.specs.Above.{is_above}
use Rattle.ceiling_book.proofs.Moves.{holder-told}
use Rattle.ceiling_book.proofs.CeilingBook.raise.Goals as goal

pub returns-in-Some-clause-raised : goal.returns-in-Some-clause-raised
returns-in-Some-clause-raised c = λ rs ks stands placed x named.
    let now = c.args.self.now in
    let told = c.is_ancestor.ensures.above rs ks stands c.own_place-floor.result.state x (c.own_place-floor.ensures.floor c.args.dag.now rs ks placed) named in
    let above = ap (λ y. is_above rs y x) (sym c.own_place-floor.ensures.state) ∙ sym told ∙ c.if-not-is_ancestor.false in
    (above, sym (holder-told c.args.dag.now rs ks stands c.args.slot x named now placed) ∙ sym c.holder.ensures ∙ c.in-Some.is, refl)

pub returns-in-Ok-clause-raised : goal.returns-in-Ok-clause-raised
returns-in-Ok-clause-raised c = λ rs ks stands placed x named.
    let now = c.args.self.now in
    let told = c.is_ancestor.ensures.above rs ks stands c.own_place-floor.result.state x (c.own_place-floor.ensures.floor c.args.dag.now rs ks placed) named in
    let above = ap (λ y. is_above rs y x) (sym c.own_place-floor.ensures.state) ∙ sym told ∙ c.if-not-is_ancestor.false in (
      above,
      sym (holder-told c.args.dag.now rs ks stands c.args.slot x named now placed) ∙ sym c.holder.ensures ∙ c.in-None.is,
      c.in-Ok.ensures.moved rs ks stands x named,
    )

pub returns-in-Err-clause-raised : goal.returns-in-Err-clause-raised
returns-in-Err-clause-raised c = λ rs ks stands placed x named.
    let now = c.args.self.now in
    let told = c.is_ancestor.ensures.above rs ks stands c.own_place-floor.result.state x (c.own_place-floor.ensures.floor c.args.dag.now rs ks placed) named in
    let above = ap (λ y. is_above rs y x) (sym c.own_place-floor.ensures.state) ∙ sym told ∙ c.if-not-is_ancestor.false in (
      above,
      sym (holder-told c.args.dag.now rs ks stands c.args.slot x named now placed) ∙ sym c.holder.ensures ∙ c.in-None.is,
      (c.in-Err.ensures.moved rs ks stands x named).0,
      (c.in-Err.ensures.moved rs ks stands x named).1,
    )

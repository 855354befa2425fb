use Rattle.std.proofs.Common.{◌∙◌, get_or, sym, ap, arith}
use Rattle.std.proofs.lemmas.Option.{same_Some}
use Rattle.plain_dag.specs.Above.{is_proper_ancestor}
use Rattle.plain_dag.specs.Floors.{Floor}
use Rattle.ceiling_book.specs.Places.{IsAt, HasStandIn}
use Rattle.ceiling_book.proofs.Moves.{one-fails, all-pass, floor-at, no_floor}
use Rattle.ceiling_book.proofs.CeilingBook.closed.Goals as goal

pub returns-then-not-is_proper_ancestor : goal.returns-then-not-is_proper_ancestor
returns-then-not-is_proper_ancestor c = λ rs ks stands placed x named.
    let items = c.deref-floor-items.result.now in
    let i = c.loop-floor.floor-index in
    let same = c.loop-floor.invariant.items in
    let at = floor-at (IsAt c.args.dag.now) (HasStandIn c.args.dag.now rs ks) c.args.self.now items i no_floor same c.loop-floor-test.true placed in
    let here = same_Some c.id_of.result x (sym c.id_of.ensures.is ∙ named) in
    let told = c.is_proper_ancestor.ensures rs ks stands c.id_of.ensures.is at in
    one-fails (λ (f : Floor). is_proper_ancestor rs x f.state) items c.args.self.now.floors same i no_floor c.loop-floor-test.true
    (ap (λ y. is_proper_ancestor rs y (get_or items i no_floor).place.state) (sym here) ∙ sym told ∙ c.if-not-is_proper_ancestor.true)

pub returns : goal.returns
returns c = λ rs ks stands placed x named.
    let end = c.loop-floor-test.false in
    all-pass (λ (f : Floor). is_proper_ancestor rs x f.state) c.deref-floor-items.result.now c.args.self.now.floors c.loop-floor.invariant.items c.loop-floor.floor-index
    (omega arith) (c.loop-floor.invariant.closed rs ks stands placed x named)

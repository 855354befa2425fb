use Rattle.std.proofs.Common.{◌∙◌, sym, arith}
use Rattle.plain_dag.specs.Above.{is_above}
use Rattle.plain_dag.specs.Floors.{Floor}
use Rattle.ceiling_book.specs.Places.{IsAt, HasStandIn}
use Rattle.ceiling_book.proofs.Moves.{one-fails, all-pass, floor-at, no_floor}
use Rattle.ceiling_book.proofs.CeilingBook.above_all_floors.Goals as goal

pub returns-then-not-is_ancestor : goal.returns-then-not-is_ancestor
returns-then-not-is_ancestor c = λ rs ks stands placed x named.
    let items = c.deref-floor-items.result.now in
    let i = c.loop-floor.floor-index in
    let same = c.loop-floor.invariant.items in
    let at = floor-at (IsAt c.args.dag.now) (HasStandIn c.args.dag.now rs ks) c.args.self.now items i no_floor same c.loop-floor-test.true placed in
    let told = c.is_ancestor.ensures.above rs ks stands x _ named at in
    one-fails (λ (f : Floor). is_above rs x f.state) items c.args.self.now.floors same i no_floor c.loop-floor-test.true (sym told ∙ c.if-not-is_ancestor.true)

pub returns : goal.returns
returns c = λ rs ks stands placed x named.
    let end = c.loop-floor-test.false in
    all-pass (λ (f : Floor). is_above rs x f.state) c.deref-floor-items.result.now c.args.self.now.floors c.loop-floor.invariant.items c.loop-floor.floor-index (omega arith)
    (c.loop-floor.invariant.above rs ks stands placed x named)

use Rattle.std.proofs.Common.{◌∙◌, ◌==◌, ◌&&◌, sym, arith}
use Rattle.plain_dag.specs.Above.{is_above}
use Rattle.plain_dag.specs.Floors.{Floor}
use Rattle.ceiling_book.specs.Places.{IsAt, HasStandIn}
use Rattle.ceiling_book.proofs.Moves.{one-fails, all-pass, floor-at, no_floor}
use Rattle.ceiling_book.proofs.CeilingBook.are_unpromised_above.Goals as goal

pub returns-then-not-is_unpromised_above : goal.returns-then-not-is_unpromised_above
returns-then-not-is_unpromised_above c = λ rs ks stands placed x named.
    let items = c.deref-floor-items.result.now in
    let i = c.loop-floor.floor-index in
    let same = c.loop-floor.invariant.items in
    let at = floor-at (IsAt c.args.dag.now) (HasStandIn c.args.dag.now rs ks) c.args.self.now items i no_floor same c.loop-floor-test.true placed in
    let told = c.is_unpromised_above.ensures rs ks stands at x named in
    one-fails (λ (f : Floor). f.number == 0 && is_above rs f.state x) items c.args.self.now.floors same i no_floor c.loop-floor-test.true
    (sym told ∙ c.if-not-is_unpromised_above.true)

pub returns : goal.returns
returns c = λ rs ks stands placed x named.
    let end = c.loop-floor-test.false in
    all-pass (λ (f : Floor). f.number == 0 && is_above rs f.state x) c.deref-floor-items.result.now c.args.self.now.floors c.loop-floor.invariant.items
    c.loop-floor.floor-index (omega arith) (c.loop-floor.invariant.above rs ks stands placed x named)

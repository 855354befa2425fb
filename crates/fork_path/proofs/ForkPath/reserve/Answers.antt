use Rattle.std.proofs.Common.{arith}
use Rattle.fork_path.proofs.TilePaths.{filled-same}
use Rattle.fork_path.proofs.ForkPath.reserve.Goals as goal

pub invariant_of-self : goal.invariant_of-self
invariant_of-self c =
    let whole = filled-same c.reserve_exact.new.self.items c.self.inside.tiles.items c.reserve_exact.ensures.items (c.self.invariant.0, c.self.invariant.1) in
    (whole.0, whole.1, omega (arith, c.self.invariant.2))

pub invariant_of-self-2 : goal.invariant_of-self-2
invariant_of-self-2 c =
    let whole = filled-same c.reserve_exact.new.self.items c.self.inside.tiles.items c.reserve_exact.ensures.items (c.self.invariant.0, c.self.invariant.1) in
    (whole.0, whole.1, omega (arith, c.self.invariant.2))

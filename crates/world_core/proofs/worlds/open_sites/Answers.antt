use Rattle.std.proofs.Common.{arith}
use Rattle.world_core.proofs.worlds.open_sites.Goals as goal

pub loop-count-preserved : goal.loop-count-preserved
loop-count-preserved g c = record { all = c.in_ok-open_next.ensures c.loop-count.invariant.all; within = omega (arith, c.loop-count-test.true) }

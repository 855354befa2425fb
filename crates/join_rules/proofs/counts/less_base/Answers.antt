use Rattle.std.proofs.Common.{arith}
use Rattle.std.proofs.lemmas.Int.{ints}
use Rattle.join_rules.proofs.counts.less_base.Goals as goal

pub returns : goal.returns
returns c = omega (arith, ints)

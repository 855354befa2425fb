use Rattle.std.proofs.Common.{◌∙◌}
use Rattle.branch_region.proofs.Told.{part-told}
use Rattle.branch_region.proofs.is_above_part.Goals as goal

pub returns : goal.returns
returns c = λ rs ks stands x named xs are. c.is_above_part.ensures ∙ part-told c.args.dag.now rs ks stands c.args.slot x named c.args.states.now xs are

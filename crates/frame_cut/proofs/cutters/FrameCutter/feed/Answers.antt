use Rattle.std.proofs.Common.{arith}
use Rattle.std.proofs.lemmas.Grind.{common_steps}
use Rattle.frame_cut.proofs.cutters.FrameCutter.feed.Goals as goal

pub returns-clause-held : goal.returns-clause-held
returns-clause-held c = grind (arith, common_steps)

use Rattle.std.proofs.Common.{refl}
use Rattle.frame_cut.specs.Frames.{frame}
use Rattle.branch_export.proofs.rows.scripts_are_as_told.Goals as goal

pub returns-clause-one : goal.returns-clause-one
unfolding frame
returns-clause-one c = refl

pub returns-clause-none : goal.returns-clause-none
unfolding frame
returns-clause-none c = refl

use Rattle.std.proofs.Common.{ap, ◌++◌}
use Rattle.frame_cut.specs.Frames.{frame}
use Rattle.frame_cut.proofs.heads.put_frame.Goals as goal

pub returns : goal.returns
unfolding frame
returns c = ap (λ head. head ++ c.args.body.now) c.to_be_bytes.ensures

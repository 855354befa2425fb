use Rattle.std.proofs.Common.{◌∙◌, [], ◌∷◌, ◌++◌, ap}
use Rattle.frame_cut.specs.Frames.{frame}
use Rattle.site_peers.specs.Asking.{greeting}
use Rattle.site_peers.proofs.Turning.{question_of}
use Rattle.site_peers.proofs.questions.Room.greeting.Goals as goal

pub returns : goal.returns
unfolding frame
returns c = question_of c.push.new.self greeting c.args.self.cutter (c.push.ensures ∙ ap (λ z. z ++ 0 ∷ 0 ∷ 0 ∷ 1 ∷ 71 ∷ []) c.clear.ensures) c.requires

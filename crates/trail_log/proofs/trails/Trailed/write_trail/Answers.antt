use Rattle.std.proofs.Common.{subst, ap}
use Rattle.trail_log.specs.Frames.{trail_frames, IsRead}
use Rattle.trail_log.proofs.Entries.{read_again}
use Rattle.trail_log.proofs.trails.Trailed.write_trail.Goals as goal

pub returns-clause-again : goal.returns-clause-again
returns-clause-again g c = subst (λ t. IsRead (trail_frames t) t) (ap (λ k. k.trail) c.self.view_is)
    (read_again c.self.inside.log.trail c.write_to.ensures.each)

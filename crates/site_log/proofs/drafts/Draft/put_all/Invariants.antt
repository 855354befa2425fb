use Rattle.site_log.specs.Drafts.{HasDraft}
use Rattle.site_log.proofs.drafts.Draft.put_all.Given as goal

abbrev pub invariant-loop-number : goal.invariant-loop-number
invariant-loop-number g l = (from : g.M.Resting.Plain) → HasDraft g.M.Resting from l.front l.fn.self → HasDraft g.M.Resting from l.front l.self

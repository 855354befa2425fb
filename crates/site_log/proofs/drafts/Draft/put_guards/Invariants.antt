use Rattle.std.proofs.Common.{◌≡◌, []}
use Rattle.site_log.specs.Drafts.{HasDraft, HasGuards}
use Rattle.site_log.proofs.drafts.Draft.put_guards.Given as goal

abbrev pub invariant-loop-guard : goal.invariant-loop-guard
invariant-loop-guard g l =
    (l.self.body ≡ []) × ((from : g.M.Resting.Plain) → HasDraft g.M.Resting from l.front l.fn.self → HasGuards g.M.Resting l._guard from l.front l.self)

use Rattle.std.proofs.Common.{subst}
use Rattle.site_log.specs.Readies.{HasLog}
use Rattle.site_log.proofs.mends.mend.Goals as goal

pub returns-in-Ok-write_over-clause-any_moment : goal.returns-in-Ok-write_over-clause-any_moment
returns-in-Ok-write_over-clause-any_moment g c = λ h front bodies log.
    c.write_over.ensures.any_moment h front bodies c.args.size
    (subst (HasLog g.K.Disk c.args.disk.now front bodies c.args.place c.args.size) c.if-not-torn.false log)

pub returns-clause-any_moment : goal.returns-clause-any_moment
returns-clause-any_moment g c = λ h front bodies log.
    c.write_over.ensures.any_moment h front bodies c.args.size
    (subst (HasLog g.K.Disk c.args.disk.now front bodies c.args.place c.args.size) c.if-not-torn.false log)

use Rattle.site_log.proofs.Readying.{opened_of}
use Rattle.site_log.proofs.opens.open_log.Goals as goal

pub returns-in-Ok-prepare-clause-opened : goal.returns-in-Ok-prepare-clause-opened
returns-in-Ok-prepare-clause-opened g c =
    let p = c.in-Ok-prepare.ensures.ready in (
      p.0,
      opened_of g.M.Resting g.K.Disk c.args.machine c.prepare.new.machine c.args.disk c.prepare.new.disk c.args.wanted.now c.in-Ok-prepare.ready p.0 p.1
          c.prepare.ensures.honest.1 c.prepare.ensures.opening c.end.result c.end.ensures c.go_on.result c.go_on.ensures.file c.go_on.ensures.machine
          c.go_on.ensures.stands,
    )

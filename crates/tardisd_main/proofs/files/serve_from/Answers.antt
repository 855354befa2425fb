use Rattle.std.proofs.Common.{inl, inr, refl}
use Rattle.daemon_words.specs.Daemons.{daemon_of}
use Rattle.tardisd_main.proofs.Opened.{served_from, is_refused}
use Rattle.tardisd_main.proofs.files.serve_from.Goals as goal

pub returns-in-Ok : goal.returns-in-Ok
returns-in-Ok g c =
    inr (served_from g.K.Disk g.D.Doors.opens g.D.Ports.Ports.seen c.args.plan.now c.serve_log.result.0 c.args.life c.args.site c.args.disk c.serve_log.result.1
    c.front_of.result c.in-Ok.opened c.front_of.ensures.front c.requires.opens c.requires.alone c.in-Ok.ensures.opened c.in-Ok.ensures.wanted c.in-Ok.ensures.any_moment
    c.serve_log.ensures)

pub returns-in-Err : goal.returns-in-Err
returns-in-Err g c =
    inl (
      is_refused g.K.Disk (daemon_of c.args.plan.now) c.args.life c.args.site c.args.disk c.front_of.result c.in-Err.refused.end c.in-Err.refused.disk c.end_of.result
          c.front_of.ensures.front c.requires.opens c.end_of.ensures c.in-Err.ensures.refused c.in-Err.ensures.cause c.in-Err.ensures.any_moment,
      refl,
    )

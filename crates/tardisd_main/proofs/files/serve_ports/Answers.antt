use Rattle.std.proofs.Common.{inl, inr, refl}
use Rattle.daemon_words.specs.Daemons.{daemon_of}
use Rattle.site_log.specs.Kept.{starts}
use Rattle.tardisd_main.proofs.Serving.{not_served, serves_file}
use Rattle.tardisd_main.proofs.files.serve_ports.Goals as goal

pub returns-in-Ok : goal.returns-in-Ok
returns-in-Ok g c = λ bodies site marks stands.
    inr (
      c.serve_alive.new.ports,
      c.in-Ok.end,
      serves_file g.K.Disk (daemon_of c.args.plan.now) c.args.life bodies site c.args.log c.serve_alive.new.machine.log c.close.result c.in-Ok.end
          (g.P.Ports.seen c.args.ports) (g.P.Ports.seen c.serve_alive.new.ports) c.requires.opening c.serve_alive.ensures.opening c.close.ensures
          (c.in-Ok.ensures.served (starts site bodies) (marks, stands)),
      c.ending_of.ensures,
    )

pub returns : goal.returns
returns g c = λ bodies site marks stands.
    inl (
      refl,
      not_served g.K.Disk (daemon_of c.args.plan.now) c.args.life bodies site c.args.log c.serve_alive.new.machine.log c.close-in-Err.result c.requires.opening c.serve_alive.ensures.opening
          c.close-in-Err.ensures (c.in-Err.ensures.stands (starts site bodies) (marks, stands)),
    )

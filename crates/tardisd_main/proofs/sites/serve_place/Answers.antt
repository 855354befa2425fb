use Rattle.std.proofs.Common.{subst}
use Rattle.daemon_words.specs.Daemons.{daemon_of}
use Rattle.plain_site.specs.Site.{opening}
use Rattle.site_lives.specs.Acquainted.{unacquainted}
use Rattle.rest_site.specs.Stands.{AcquaintedStands}
use Rattle.tardisd_main.proofs.Runs.{serves_place}
use Rattle.tardisd_main.proofs.sites.serve_place.Goals as goal

pub returns-in-Ok-clause-served : goal.returns-in-Ok-clause-served
returns-in-Ok-clause-served g c =
    serves_place (daemon_of c.args.plan.now) c.args.life c.in-Ok.site c.serve_machine.result (g.P.Ports.seen c.args.ports.now)
    (g.P.Ports.seen c.serve_machine.new.ports)
    (subst (λ l. AcquaintedStands c.in-Ok.site (unacquainted (opening l c.args.plan.now.place.site))) c.limits.ensures.limits c.in-Ok.ensures.stands)
    c.serve_machine.ensures.served

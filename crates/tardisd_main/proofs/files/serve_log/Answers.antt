use Rattle.std.proofs.Common.{◌∙◌, Ok, Err, ap, subst, refl}
use Rattle.daemon_words.specs.Daemons.{daemon_of}
use Rattle.log_groups.specs.declared.fronts.LogFront.{LogFront}
use Rattle.rest_site.specs.Stands.{opened_alone}
use Rattle.site_log.specs.Kept.{starts}
use Rattle.tardisd_main.specs.Stores.{ServedOver}
use Rattle.tardisd_main.proofs.Serving.{keeps}
use Rattle.tardisd_main.proofs.files.serve_log.Goals as goal

pub returns-in-Ok : goal.returns-in-Ok
returns-in-Ok g c = λ bodies site marks stands.
    let served = c.serve_ports.ensures bodies site marks (c.shorten_beyond.ensures.stands (starts site bodies) marks stands) in (
      Ok c.in-Ok.ports,
      (
        c.in-Ok.ensures.opened,
        subst (λ (f : LogFront). ServedOver g.D.Ports.Ports.seen g.K.Disk (daemon_of c.args.plan.now) c.args.life c.serve_ports.result.0 f bodies site c.serve_ports.result.1
            c.in-Ok.ports) c.shorten_beyond.ensures.front served,
      ),
    )

pub returns-in-Err : goal.returns-in-Err
returns-in-Err g c = λ bodies site marks stands.
    let kept = keeps g.K.Disk (daemon_of c.args.plan.now) c.shorten_beyond.new.self c.args.log.file.front c.close.result (starts site bodies)
    (ap opened_alone c.shorten_beyond.ensures.machine ∙ c.requires.opening) c.shorten_beyond.ensures.front c.close.ensures
    (marks, c.shorten_beyond.ensures.stands (starts site bodies) marks stands) in
    (Err c.in-Err.fault, (c.in-Err.ensures.opened, (refl, kept)))

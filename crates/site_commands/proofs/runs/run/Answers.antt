use Rattle.std.proofs.Common.{map}
use Rattle.tardis_io.proofs.Told.{weaker}
use Rattle.tardis_io.specs.declared.statuses.Status.TheVariants.{NoMemory}
use Rattle.frame_cut.specs.Events.{event_of}
use Rattle.site_run.specs.Machines.{Answered}
use Rattle.site_run.specs.Endings.{Outcome, shape_of}
use Rattle.plain_site.specs.Site.{opening}
use Rattle.plain_site.specs.Step.{site_machine}
use Rattle.site_commands.specs.Runs.{RunFrom}
use Rattle.site_commands.proofs.NoMemory.{no_frames}
use Rattle.site_commands.proofs.FrameRuns.{run_from, no_run, opens}
use Rattle.site_commands.proofs.runs.run.Goals as goal

pub returns-in-Ok-clause-ends : goal.returns-in-Ok-clause-ends
returns-in-Ok-clause-ends g c =
    let site = opening c.args.limits c.args.own in
    let status = c.run_site-status.result in
    let old = g.O.Sink.given c.args.output.now in
    let new = g.O.Sink.given c.run_site-status.new.output in
    record {
      outcome = weaker (g.I.Source.left c.args.input.now) (g.I.Source.left c.run_site-status.new.input)
          (λ first left. Outcome status (g.A.AnySite.stands c.in-Ok.site)
          (λ s bodies. Answered site_machine (shape_of status) (g.A.AnySite.stands c.run_site-status.new.machine) old new s (map event_of bodies)) first left)
          (RunFrom site status old new)
          c.run_site-status.ensures.outcome
          (λ x y o. run_from site (g.A.AnySite.stands c.in-Ok.site) (g.A.AnySite.stands c.run_site-status.new.machine) status old new x y
          c.in-Ok.ensures.stands (λ t stands. g.met.A.AnySite.sound c.run_site-status.new.machine t stands) o);
      exact = c.run_site-status.ensures.exact;
      end = c.run_site-status.ensures.status;
      nothing = λ none. let all = c.run_site-status.ensures.nothing none in (all.0, all.1);
    }

pub returns-in-Err-clause-ends : goal.returns-in-Err-clause-ends
returns-in-Err-clause-ends g c =
    let site = opening c.args.limits c.args.own in
    let old = g.O.Sink.given c.args.output.now in
    no_frames g.I.Source.left g.I.Source.faults g.O.Sink.faults c.args.input.now c.args.output.now (RunFrom site NoMemory old old)
    (λ x. no_run site old x (opens c.args.limits c.args.own c.requires.limits c.requires.first c.requires.last))

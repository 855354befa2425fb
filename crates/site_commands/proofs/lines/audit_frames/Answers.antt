use Rattle.tardis_io.proofs.Told.{weaker}
use Rattle.tardis_io.specs.declared.statuses.Status.TheVariants.{NoMemory}
use Rattle.plain_site.specs.Site.{opening}
use Rattle.plain_site.specs.Step.{site_machine}
use Rattle.shell_run.specs.Outcomes.{AuditOutcome}
use Rattle.site_commands.specs.Runs.{AuditFrom}
use Rattle.site_commands.proofs.NoMemory.{no_frames}
use Rattle.site_commands.proofs.FrameRuns.{opens}
use Rattle.site_commands.proofs.LineRuns.{audit_from, no_audit}
use Rattle.site_commands.proofs.lines.audit_frames.Goals as goal

pub returns-in-Ok-clause-ends : goal.returns-in-Ok-clause-ends
returns-in-Ok-clause-ends g c =
    let site = opening c.args.limits c.args.own in
    let status = c.audit.result in
    let old = g.O.Sink.given c.args.output.now in
    let new = g.O.Sink.given c.audit.new.output in
    record {
      outcome = weaker (g.I.Source.left c.args.input.now) (g.I.Source.left c.audit.new.input)
          (AuditOutcome site_machine status (g.A.AnySite.stands c.in-Ok.site) (g.A.AnySite.stands c.audit.new.machine) old new)
          (AuditFrom site status old new)
          c.audit.ensures.outcome
          (λ x y o. audit_from site (g.A.AnySite.stands c.in-Ok.site) (g.A.AnySite.stands c.audit.new.machine) status old new x y
          c.in-Ok.ensures.stands (λ t stands. g.met.A.AnySite.sound c.audit.new.machine t stands) o);
      exact = c.audit.ensures.exact;
      end = c.audit.ensures.status;
      nothing = λ none. let all = c.audit.ensures.nothing none in (all.0, all.1);
    }

pub returns-in-Err-clause-ends : goal.returns-in-Err-clause-ends
returns-in-Err-clause-ends g c =
    let site = opening c.args.limits c.args.own in
    let old = g.O.Sink.given c.args.output.now in
    no_frames g.I.Source.left g.I.Source.faults g.O.Sink.faults c.args.input.now c.args.output.now (AuditFrom site NoMemory old old)
    (λ x. no_audit site old x (opens c.args.limits c.args.own c.requires.limits c.requires.first c.requires.last))

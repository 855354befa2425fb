use Rattle.tardis_io.proofs.Told.{weaker}
use Rattle.tardis_io.specs.declared.statuses.Status.TheVariants.{NoMemory}
use Rattle.plain_site.specs.Site.{opening}
use Rattle.plain_site.specs.Step.{site_machine}
use Rattle.shell_run.specs.Answers.{over_lines}
use Rattle.shell_run.specs.Outcomes.{ShellOutcome}
use Rattle.site_commands.specs.Runs.{ShellFrom}
use Rattle.site_commands.proofs.NoMemory.{no_lines}
use Rattle.site_commands.proofs.FrameRuns.{opens}
use Rattle.site_commands.proofs.LineRuns.{shell_from, no_shell}
use Rattle.site_commands.proofs.lines.shell.Goals as goal

pub returns-in-Ok-clause-ends : goal.returns-in-Ok-clause-ends
returns-in-Ok-clause-ends g c =
    let site = opening c.args.limits c.args.own in
    let status = c.run_shell.result in
    let old = g.O.Sink.given c.args.output.now in
    let new = g.O.Sink.given c.run_shell.new.output in
    record {
      outcome = weaker (g.I.Source.left c.args.input.now) (g.I.Source.left c.run_shell.new.input)
          (ShellOutcome (over_lines site_machine) status (g.A.AnySite.stands c.in-Ok.site) (g.A.AnySite.stands c.run_shell.new.machine) old new)
          (ShellFrom site status old new)
          c.run_shell.ensures.outcome
          (λ x y o. shell_from site (g.A.AnySite.stands c.in-Ok.site) (g.A.AnySite.stands c.run_shell.new.machine) status old new x y
          c.in-Ok.ensures.stands (λ t stands. g.met.A.AnySite.sound c.run_shell.new.machine t stands) o);
      exact = c.run_shell.ensures.exact;
      end = c.run_shell.ensures.status;
      nothing = λ none. let all = c.run_shell.ensures.nothing none in (all.0, all.1);
    }

pub returns-in-Err-clause-ends : goal.returns-in-Err-clause-ends
returns-in-Err-clause-ends g c =
    let site = opening c.args.limits c.args.own in
    let old = g.O.Sink.given c.args.output.now in
    no_lines g.I.Source.left g.I.Source.faults g.O.Sink.faults c.args.input.now c.args.output.now (ShellFrom site NoMemory old old)
    (λ x. no_shell site old x (opens c.args.limits c.args.own c.requires.limits c.requires.first c.requires.last))

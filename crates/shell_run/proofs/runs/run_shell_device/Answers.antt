use Rattle.tardis_io.proofs.Told.{same}
use Rattle.tardis_io.specs.declared.statuses.Status.TheVariants.{NoMemory}
use Rattle.shell_run.specs.Answers.{over_lines}
use Rattle.shell_run.specs.Outcomes.{ShellOutcome}
use Rattle.shell_run.proofs.Nothing.{no_shell}
use Rattle.shell_run.proofs.runs.run_shell_device.Goals as goal

pub returns-in-Err-clause-outcome : goal.returns-in-Err-clause-outcome
returns-in-Err-clause-outcome g c =
    same (g.D.Duplex.left c.args.device.now)
    (ShellOutcome (over_lines g.M.Machine.plain) NoMemory (g.M.Machine.stands c.args.machine.now) (g.M.Machine.stands c.args.machine.now)
    (g.D.Sink.given c.args.device.now) (g.D.Sink.given c.args.device.now))
    (λ x. no_shell (over_lines g.M.Machine.plain) (g.M.Machine.stands c.args.machine.now) (g.D.Sink.given c.args.device.now) x)

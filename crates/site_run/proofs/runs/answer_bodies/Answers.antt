use Rattle.std.proofs.Common.{◌+◌}
use Rattle.tardis_io.proofs.Told.{same}
use Rattle.tardis_io.specs.declared.statuses.Status.TheVariants.{NoMemory}
use Rattle.site_run.proofs.Takings.{Done, done_none}
use Rattle.site_run.proofs.runs.answer_bodies.Goals as goal

pub returns-in-Err-clause-outcome : goal.returns-in-Err-clause-outcome
returns-in-Err-clause-outcome g c =
    same (g.D.Duplex.left c.args.device.now) (Done g.C.Cutter.form g.R.Responder.may (1048576 + g.R.Responder.MOST) (g.R.Responder.stands c.args.subject.now) (g.R.Responder.stands c.args.subject.now) (g.D.Sink.given c.args.device.now) (g.D.Sink.given c.args.device.now) NoMemory)
    (λ x. done_none g.C.Cutter.form c.requires g.R.Responder.may (1048576 + g.R.Responder.MOST) (g.R.Responder.stands c.args.subject.now) (g.D.Sink.given c.args.device.now) x)

use Rattle.site_run.proofs.Lasts.{last_none}
use Rattle.site_run.proofs.answers.answer_last.Goals as goal

pub returns-in-Nothing-clause-answered : goal.returns-in-Nothing-clause-answered
returns-in-Nothing-clause-answered g c = (
  c.in-Nothing.ensures.0,
  last_none g.R.Responder.may (g.R.Responder.stands c.args.subject.now) (g.O.Sink.given c.args.output.now)
      (g.C.Cutter.form.last (g.C.Cutter.held c.args.cutter.now)) c.in-Nothing.ensures.1,
)

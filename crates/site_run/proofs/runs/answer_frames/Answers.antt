use Rattle.std.proofs.Common.{◌+◌, ℕ, List, []}
use Rattle.tardis_io.proofs.Told.{weaker}
use Rattle.site_run.specs.Forms.{frame_form}
use Rattle.site_run.specs.Responses.{AnsweredBy}
use Rattle.site_run.specs.Endings.{RunOutcome, Outcome, shape_within}
use Rattle.site_run.proofs.FormLaws.{frames_are_lawful}
use Rattle.site_run.proofs.Ends.{frame_outcome, frame_end}
use Rattle.site_run.proofs.runs.answer_frames.Goals as goal

pub answer_bodies-requires : goal.answer_bodies-requires
answer_bodies-requires g c = frames_are_lawful

pub returns-clause-outcome : goal.returns-clause-outcome
returns-clause-outcome g c =
    let P : g.R.Responder.State → List (List ℕ) → Type 0 = λ s bodies. AnsweredBy g.R.Responder.may (shape_within (1048576 + g.R.Responder.MOST) c.answer_bodies.result) (g.R.Responder.stands c.answer_bodies.new.subject)
    (g.D.Sink.given c.args.device.now) (g.D.Sink.given c.answer_bodies.new.device) [] [] s bodies in
    weaker (g.D.Duplex.left c.args.device.now) (g.D.Duplex.left c.answer_bodies.new.device)
    (λ first left. RunOutcome frame_form c.answer_bodies.result (g.R.Responder.stands c.args.subject.now) P first left)
    (λ first left. Outcome c.answer_bodies.result (g.R.Responder.stands c.args.subject.now) P first left)
    c.answer_bodies.ensures.outcome
    (λ x y o. frame_outcome c.answer_bodies.result (g.R.Responder.stands c.args.subject.now) P x y o)

pub returns-clause-status : goal.returns-clause-status
returns-clause-status g c = frame_end c.answer_bodies.result c.answer_bodies.ensures.status

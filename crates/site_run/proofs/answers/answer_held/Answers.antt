use Rattle.std.proofs.Common.{◌≡◌, ◌+◌, ◌∙◌, ℕ, List, [], ◌∷◌, length, subst, arith}
use Rattle.site_run.specs.Nexts.{Leaves}
use Rattle.site_run.specs.Responses.{Whole, Front, AnsweredBy, Serves}
use Rattle.site_run.proofs.Turns.{whole_then, front_then, on_err}
use Rattle.site_run.proofs.Serving.{serves_body}
use Rattle.site_run.proofs.answers.answer_held.Goals as goal

pub loop-body-preserved : goal.loop-body-preserved
loop-body-preserved g c =
    let left = subst (λ r. Leaves g.C.Cutter.form (g.C.Cutter.held c.loop-body.cutter) r (g.C.Cutter.held c.next.follows.lender-at-none)) c.in-Body.is
    c.next.follows.holds-at-none in
    record {
      served = serves_body g.C.Cutter.form c.requires.laws g.R.Responder.may Whole whole_then (g.R.Responder.stands c.args.subject.now)
          (g.R.Responder.stands c.loop-body.subject) (g.R.Responder.stands c.answer_body.new.subject)
          (g.O.Sink.given c.args.output.now) (g.O.Sink.given c.loop-body.output) (g.O.Sink.given c.answer_body.new.output)
          c.args.gathered.now.bytes c.loop-body.gathered.bytes c.answer_body.new.gathered.bytes (g.C.Cutter.held c.args.cutter.now)
          (g.C.Cutter.held c.loop-body.cutter) (g.C.Cutter.held c.next.follows.lender-at-none) c.in-Body.body.now
          c.loop-body.invariant.served left.0 c.in_ok-answer_body-in-Body.ensures.answered;
      fits = c.in_ok-answer_body-in-Body.ensures.fits;
      room = c.answer_body.ensures.room ∙ c.loop-body.invariant.room;
      later = omega (arith, c.answer_body.ensures.cause.later, c.loop-body.invariant.later);
      kept = c.answer_body.ensures.kept ∙ c.loop-body.invariant.kept;
      opening = c.answer_body.ensures.opening ∙ c.loop-body.invariant.opening;
    }

pub returns-in_err-answer_body-in-Body-clause-broken : goal.returns-in_err-answer_body-in-Body-clause-broken
returns-in_err-answer_body-in-Body-clause-broken g c =
    let left = subst (λ r. Leaves g.C.Cutter.form (g.C.Cutter.held c.loop-body.cutter) r (g.C.Cutter.held c.next.follows.lender-at-none)) c.in-Body.is
    c.next.follows.holds-at-none in
    on_err c.from_residual.result ((x : List ℕ) × Serves g.C.Cutter.form g.R.Responder.may (Front c.args.gathered.now.room)
    (g.R.Responder.stands c.args.subject.now) (g.R.Responder.stands c.answer_body.new.subject) (g.O.Sink.given c.args.output.now)
    (g.O.Sink.given c.answer_body.new.output) c.args.gathered.now.bytes [] (g.C.Cutter.held c.args.cutter.now) x) (
      g.C.Cutter.held c.next.follows.lender-at-none,
      serves_body g.C.Cutter.form c.requires.laws g.R.Responder.may (Front c.args.gathered.now.room) (front_then c.args.gathered.now.room)
          (g.R.Responder.stands c.args.subject.now)
          (g.R.Responder.stands c.loop-body.subject) (g.R.Responder.stands c.answer_body.new.subject)
          (g.O.Sink.given c.args.output.now) (g.O.Sink.given c.loop-body.output) (g.O.Sink.given c.answer_body.new.output)
          c.args.gathered.now.bytes c.loop-body.gathered.bytes [] (g.C.Cutter.held c.args.cutter.now) (g.C.Cutter.held c.loop-body.cutter)
          (g.C.Cutter.held c.next.follows.lender-at-none) c.in-Body.body.now
          c.loop-body.invariant.served left.0
          (λ s f. subst (λ r. AnsweredBy g.R.Responder.may (Front r) (g.R.Responder.stands c.answer_body.new.subject) (g.O.Sink.given c.loop-body.output)
          (g.O.Sink.given c.answer_body.new.output) c.loop-body.gathered.bytes [] s (c.in-Body.body.now ∷ [])) c.loop-body.invariant.room
          (c.in_err-answer_body-in-Body.ensures.broken s f)),
    )

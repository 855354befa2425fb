use Rattle.std.proofs.Common.{◌∷◌, [], arith}
use Rattle.site_run.proofs.Turns.{answered_one, written_ok, written_err}
use Rattle.site_run.proofs.answers.answer_body.Goals as goal

pub returns-then-has_room-clause-answered : goal.returns-then-has_room-clause-answered
returns-then-has_room-clause-answered g c = λ s f.
    answered_one g.R.Responder.may (g.R.Responder.stands c.respond.new.subject) (g.O.Sink.given c.args.output.now) c.args.gathered.now.bytes
    c.respond.new.out.bytes s c.args.body.now (c.respond.ensures.answer s f)

pub returns-else-has_room-clause-answered : goal.returns-else-has_room-clause-answered
returns-else-has_room-clause-answered g c =
    written_ok g.R.Responder.may (g.R.Responder.stands c.args.subject.now) (g.R.Responder.stands c.respond.new.subject) (g.O.Sink.given c.args.output.now)
    (g.O.Sink.given c.write_to.new.output) c.args.gathered.now.bytes c.respond.new.out.bytes c.write_to.new.self.bytes
    (c.args.body.now ∷ []) c.write_to.result
    c.write_to.ensures.bytes c.write_to.ensures.none
    (λ s f. answered_one g.R.Responder.may (g.R.Responder.stands c.respond.new.subject) (g.O.Sink.given c.args.output.now) c.args.gathered.now.bytes
    c.respond.new.out.bytes s c.args.body.now (c.respond.ensures.answer s f))

pub returns-else-has_room-clause-broken : goal.returns-else-has_room-clause-broken
returns-else-has_room-clause-broken g c =
    written_err g.R.Responder.may (g.R.Responder.stands c.args.subject.now) (g.R.Responder.stands c.respond.new.subject) (g.O.Sink.given c.args.output.now)
    (g.O.Sink.given c.write_to.new.output) c.args.gathered.now.bytes c.respond.new.out.bytes c.args.gathered.now.room
    (c.args.body.now ∷ []) c.write_to.result
    (omega (arith, c.write_to.ensures.within, c.respond.ensures.room)) c.write_to.ensures.bytes
    (λ s f. answered_one g.R.Responder.may (g.R.Responder.stands c.respond.new.subject) (g.O.Sink.given c.args.output.now) c.args.gathered.now.bytes
    c.respond.new.out.bytes s c.args.body.now (c.respond.ensures.answer s f))

use Rattle.std.proofs.Common.{◌++◌, ℕ, List, [], arith}
use Rattle.site_run.specs.Responses.{Front, Serves}
use Rattle.site_run.proofs.Turns.{on_err}
use Rattle.site_run.proofs.Serving.{piece_lost}
use Rattle.site_run.proofs.answers.answer_piece.Goals as goal

pub returns-in_err-write_to-clause-broken : goal.returns-in_err-write_to-clause-broken
returns-in_err-write_to-clause-broken g c =
    on_err c.from_residual-in_err-write_to.result ((x : List ℕ) × Serves g.C.Cutter.form g.R.Responder.may (Front c.args.gathered.now.room)
    (g.R.Responder.stands c.args.subject.now) (g.R.Responder.stands c.answer_held.new.subject) (g.O.Sink.given c.args.output.now)
    (g.O.Sink.given c.write_to.new.output) [] [] (g.C.Cutter.held c.args.cutter.now ++ c.args.piece.now) x)
    (piece_lost g.C.Cutter.form g.R.Responder.may (g.R.Responder.stands c.args.subject.now) (g.R.Responder.stands c.answer_held.new.subject)
    (g.O.Sink.given c.args.output.now) (g.O.Sink.given c.answer_held.new.output) (g.O.Sink.given c.write_to.new.output)
    c.args.gathered.now.bytes c.answer_held.new.gathered.bytes (g.C.Cutter.held c.args.cutter.now) c.args.piece.now (g.C.Cutter.held c.feed.new.self)
    (g.C.Cutter.held c.answer_held.new.cutter) c.args.gathered.now.room
    (omega (arith, c.in_err-write_to.ensures.within, c.answer_held.ensures.room)) c.requires.none c.feed.ensures
    c.in_ok-behind.ensures.served.1 c.in_err-write_to.ensures.bytes)

use Rattle.std.proofs.Common.{◌≡◌, ◌+◌, ◌≤◌, length}
use Rattle.site_run.specs.Responses.{Serves, Whole}
use Rattle.site_run.proofs.answers.answer_held.Given as goal

abbrev pub invariant-loop-body : goal.invariant-loop-body
invariant-loop-body g l = record {
  served : Serves g.C.Cutter.form g.R.Responder.may Whole (g.R.Responder.stands l.fn.subject) (g.R.Responder.stands l.subject) (g.O.Sink.given l.fn.output)
      (g.O.Sink.given l.output) l.fn.gathered.bytes l.gathered.bytes (g.C.Cutter.held l.fn.cutter) (g.C.Cutter.held l.cutter);
  fits : length l.gathered.bytes + g.R.Responder.MOST ≤ l.gathered.room;
  room : l.gathered.room ≡ l.fn.gathered.room;
  later : g.O.Sink.faults l.fn.output ≤ g.O.Sink.faults l.output;
  kept : g.O.Sink.kept l.output ≡ g.O.Sink.kept l.fn.output;
  opening : g.R.Responder.opening l.subject ≡ g.R.Responder.opening l.fn.subject;
}

abbrev pub decreases-loop-body : goal.decreases-loop-body
decreases-loop-body g l = length (g.C.Cutter.held l.cutter)

use Rattle.std.proofs.Common.{◌≡◌, ◌+◌, ◌-◌, ◌≤◌, [], length}
use Rattle.tardis_io.specs.Told.{WhileTold}
use Rattle.site_run.specs.Responses.{Whole, AnsweredBy}
use Rattle.site_run.specs.Prompt.{EachTake, AllSoFar}
use Rattle.site_run.proofs.Takings.{Taking}
use Rattle.site_run.proofs.runs.answer_input.Given as goal

abbrev pub invariant-loop-taken : goal.invariant-loop-taken
invariant-loop-taken g l = record {
  told : WhileTold (g.D.Duplex.left l.fn.device) (g.D.Duplex.left l.device)
      (Taking g.C.Cutter.form g.R.Responder.may (1048576 + g.R.Responder.MOST) (g.R.Responder.stands l.fn.subject) (g.R.Responder.stands l.subject)
      (g.D.Sink.given l.fn.device) (g.D.Sink.given l.device) l.taken (g.C.Cutter.held l.cutter));
  prompt : EachTake (g.D.Duplex.takes l.fn.device) (g.D.Duplex.takes l.device)
      (λ moment. WhileTold (g.D.Duplex.left l.fn.device) moment.left (AllSoFar g.C.Cutter.form (g.R.Responder.stands l.fn.subject)
      (λ s bodies. AnsweredBy g.R.Responder.may Whole (λ _. Unit {0}) (g.D.Sink.given l.fn.device) moment.given [] [] s bodies)));
  within : l.taken ≤ 1099511627776;
  part : g.C.Cutter.form.IsPart (g.C.Cutter.held l.cutter);
  piece : length l.piece ≡ 65536;
  none : l.gathered.bytes ≡ [];
  room : g.R.Responder.MOST ≤ l.gathered.room;
  bounded : l.gathered.room ≤ 1048576 + g.R.Responder.MOST;
  read_later : g.D.Duplex.take_faults l.fn.device ≤ g.D.Duplex.take_faults l.device;
  write_later : g.D.Sink.faults l.fn.device ≤ g.D.Sink.faults l.device;
  opening : g.R.Responder.opening l.subject ≡ g.R.Responder.opening l.fn.subject;
  parts : g.D.Duplex.parts l.device ≡ g.D.Duplex.parts l.fn.device;
}

abbrev pub decreases-loop-taken : goal.decreases-loop-taken
decreases-loop-taken g l = 1099511627776 - l.taken

use Rattle.std.proofs.Common.{◌≡◌, ◌≤◌, ◌+◌, length}
use Rattle.hub.specs.Answering.{Serves}
use Rattle.hub.proofs.answers.answer_held.Given as goal

abbrev pub invariant-loop-cutter : goal.invariant-loop-cutter
invariant-loop-cutter g l = record {
  served : Serves (g.M.Settling.through l.fn.door) (g.M.Settling.stands l.fn.machine) (g.M.Settling.stands l.machine) l.fn.actor l.fn.cutter l.cutter l.fn.waiting l.waiting
      l.fn.tally l.tally;
  counts : l.tally.count ≤ 4294967295 + length l.waiting;
  opening : g.M.Settling.opening l.machine ≡ g.M.Settling.opening l.fn.machine;
}

abbrev pub decreases-loop-cutter : goal.decreases-loop-cutter
decreases-loop-cutter g l = length l.cutter

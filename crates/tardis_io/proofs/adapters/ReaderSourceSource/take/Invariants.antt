use Rattle.std.proofs.Common.{◌≤◌}
use Rattle.tardis_io.proofs.adapters.ReaderSourceSource.take.Given as goal

abbrev pub invariant-loop : goal.invariant-loop
invariant-loop g l = l.fn.self.faults ≤ l.self.faults

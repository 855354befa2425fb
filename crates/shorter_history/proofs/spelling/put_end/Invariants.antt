use Rattle.std.proofs.Common.{◌≤◌}
use Rattle.std.specs.Prelude.{vec_len, vec_capacity}
use Rattle.shorter_history.proofs.spelling.put_end.Given as goal

abbrev pub invariant-loop-floor : goal.invariant-loop-floor
invariant-loop-floor l = record {
  few : vec_len l.fn.body ≤ l.fn.limit → vec_len l.body ≤ l.fn.limit;
  room : vec_capacity l.fn.body ≤ vec_capacity l.body;
}

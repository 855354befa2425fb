use Rattle.std.proofs.Common.{◌≡◌}
use Rattle.dag_lock.proofs.turns.draw.Given as goal

abbrev pub invariant-loop : goal.invariant-loop
invariant-loop g l = (l.seat.me ≡ l.initial.seat.me) × (l.seat.table_id ≡ l.initial.seat.table_id)

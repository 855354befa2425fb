use Rattle.std.proofs.Common.{◌≡◌, ℕ, None, length}
use Rattle.hub.specs.Connections.{connection_at}
use Rattle.hub.proofs.serves.free_connections.Given as goal

abbrev pub invariant-loop : goal.invariant-loop
invariant-loop l = record {
  slots : length l.connections.items ≡ l.counter;
  free : (n : ℕ) → connection_at l.connections.items n ≡ None;
}

use Rattle.std.proofs.Common.{ℕ, ◌<◌, IsSome}
use Rattle.hub.specs.Connections.{connection_at}
use Rattle.hub.proofs.connections.free_slot.Given as goal

abbrev pub invariant-loop-slot : goal.invariant-loop-slot
invariant-loop-slot l = (n : ℕ) → n < l.slot → IsSome (connection_at l.fn.connections n)

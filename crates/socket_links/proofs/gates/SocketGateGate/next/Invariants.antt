use Rattle.std.proofs.Common.{◌≤◌, IsSome}
use Rattle.socket_links.proofs.gates.SocketGateGate.next.Given as goal

abbrev pub invariant-loop : goal.invariant-loop
invariant-loop g l = record { later : l.fn.self.faults ≤ l.self.faults; bound : IsSome l.self.door }

use Rattle.std.proofs.Common.{◌≡◌, ◌≤◌}
use Rattle.socket_links.proofs.links.SocketLinkDuplex.take.Given as goal

abbrev pub invariant-loop : goal.invariant-loop
invariant-loop l = (l.fn.self.read_faults ≤ l.self.read_faults) × (l.self.write_faults ≡ l.fn.self.write_faults)

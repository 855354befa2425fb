use Rattle.std.proofs.Common.{◌≡◌, ◌≤◌}
use Rattle.socket_links.proofs.links.SocketLinkSink.give.Given as goal

abbrev pub invariant-loop : goal.invariant-loop
invariant-loop l = (l.fn.self.write_faults ≤ l.self.write_faults) × (l.self.read_faults ≡ l.fn.self.read_faults)

use Rattle.std.proofs.Common.{◌≡◌, ◌-◌, length, option_map}
use Rattle.tardis_base.specs.Sizes.{piece}
use Rattle.hub.specs.Settlings.{behind_doors}
use Rattle.hub.specs.Upkeeps.{rule_of}
use Rattle.hub.specs.Keeping.{Led}
use Rattle.hub.proofs.serves.serve_connections.Given as goal

abbrev pub invariant-loop-turns : goal.invariant-loop-turns
invariant-loop-turns g l = record {
  led : (s : g.M.Settling.Plain) → g.M.Settling.stands l.fn.machine s →
      Led (behind_doors g.M.Settling.plain g.M.Settling.through g.M.Settling.is_settled g.M.Settling.settled) (option_map rule_of l.fn.upkeep) l.fn.scope (g.M.Settling.stands l.machine) s l.connections l.peers l.tally (g.P.Ports.seen l.fn.ports)
      (g.P.Ports.seen l.ports) l.turns;
  slots : length l.connections ≡ l.fn.scope.connections;
  room : length l.buf ≡ piece;
  opening : g.M.Settling.opening l.machine ≡ g.M.Settling.opening l.fn.machine;
}

abbrev pub decreases-loop-turns : goal.decreases-loop-turns
decreases-loop-turns g l = 18446744073709551615 - l.turns

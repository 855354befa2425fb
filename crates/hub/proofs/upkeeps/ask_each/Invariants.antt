use Rattle.std.proofs.Common.{◌≡◌, map, take}
use Rattle.hub.specs.Upkeeps.{rule_of}
use Rattle.hub.specs.Answering.{Asked}
use Rattle.hub.proofs.upkeeps.ask_each.Given as goal

abbrev pub invariant-loop-request : goal.invariant-loop-request
invariant-loop-request g l = record {
  asked : (s : g.M.Settling.Plain) → g.M.Settling.stands l.fn.machine s →
      Asked g.M.Settling.plain (g.M.Settling.stands l.machine) (take l.request-index (map (λ r. r.now) l.fn.requests)) (rule_of l.fn.upkeep) l.last
      (g.P.Ports.seen l.fn.ports) (g.P.Ports.seen l.ports) s;
  opening : g.M.Settling.opening l.machine ≡ g.M.Settling.opening l.fn.machine;
}

use Rattle.std.proofs.Common.{refl}
use Rattle.hub.specs.Settlings.{behind_doors}
use Rattle.site_peers.specs.Moves.{Over}
use Rattle.hub.proofs.Goings.{moved_on}
use Rattle.hub.proofs.fetching.end.Goals as goal

pub returns-clause-turned : goal.returns-clause-turned
returns-clause-turned g c = λ tally.
    moved_on (behind_doors g.M.Settling.plain g.M.Settling.through g.M.Settling.is_settled g.M.Settling.settled) (g.M.Settling.stands c.args.machine.now) c.args.peer 0 c.args.at.now c.over-deed.new.self Over c.args.now c.over-deed.result tally
    (g.P.Ports.seen c.args.ports.now) (g.P.Ports.seen c.carry_out.new.ports) (λ u. tt) refl c.over-deed.ensures c.carry_out.ensures

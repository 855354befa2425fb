use Rattle.std.proofs.Common.{refl}
use Rattle.hub.specs.Settlings.{behind_doors}
use Rattle.site_peers.specs.Moves.{Time}
use Rattle.hub.proofs.Goings.{asked_for}
use Rattle.hub.proofs.fetching.tick.Goals as goal

pub returns-clause-turned : goal.returns-clause-turned
returns-clause-turned g c =
    asked_for (behind_doors g.M.Settling.plain g.M.Settling.through g.M.Settling.is_settled g.M.Settling.settled) (g.M.Settling.stands c.args.machine.now) (g.M.Settling.stands c.tick_noted-deed.new.machine) c.args.peer 0 c.args.at.now c.tick_noted-deed.new.at Time c.args.now
    c.tick_noted-deed.result c.args.tally.now c.tick_noted-deed.new.tally (g.P.Ports.seen c.args.ports.now) (g.P.Ports.seen c.carry_out.new.ports) (λ u. tt) refl
    c.tick_noted-deed.ensures.asked c.carry_out.ensures

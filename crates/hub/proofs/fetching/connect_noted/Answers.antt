use Rattle.std.proofs.Common.{ap, sym, ◌∙◌}
use Rattle.site_peers.specs.Moves.{Through}
use Rattle.hub.proofs.Counting.{asked_through}
use Rattle.hub.proofs.fetching.connect_noted.Goals as goal

pub returns-clause-asked : goal.returns-clause-asked
returns-clause-asked g c =
    asked_through g.M.Settling.plain g.M.Settling.stands c.args.machine.now _ c.connected.new.machine.machine.now c.args.at.now Through c.args.now c.connected.result
    c.connected.new.self c.args.tally.now _ c.connected.new.machine.tally.now c.exchanges_are_whole.ensures.short c.requires.counts
    (c.machine-1.given.1 (ap (λ o. o.machine) (sym c.connected.ensures.opening))) (c.tally-1.given.1 (ap (λ o. o.counter) (sym c.connected.ensures.opening)))
    c.connected.ensures.turned

pub returns-clause-opening : goal.returns-clause-opening
returns-clause-opening g c =
    ap g.M.Settling.opening (c.machine-1.given.1 (ap (λ o. o.machine) (sym c.connected.ensures.opening))) ∙ ap (λ o. o.state) c.connected.ensures.opening

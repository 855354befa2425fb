use Rattle.hub.specs.Settlings.{behind_doors}
use Rattle.hub.proofs.DoorTrails.{trail_behind_doors}
use Rattle.hub.proofs.laws.one_trail_behind_doors_as_seen.Goals as goal

pub returns : goal.returns
returns g c = λ rules shows seen s t turns p.
    trail_behind_doors (behind_doors g.M.Settling.plain g.M.Settling.through g.M.Settling.is_settled g.M.Settling.settled) g.N.Machine.plain rules shows seen
    s t turns p

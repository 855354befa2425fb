use Rattle.hub.specs.Settlings.{behind_doors}
use Rattle.hub.specs.Doors.{seen_through}
use Rattle.hub.proofs.DoorTrails.{trail_behind_doors, seen_behind_in_memory}
use Rattle.hub.proofs.laws.one_trail_behind_doors.Goals as goal

pub returns : goal.returns
returns g c = λ rules s t turns p.
    trail_behind_doors (behind_doors g.M.Machine.plain (seen_through g.M.Machine.plain rules) (λ s. Unit {0}) (λ s. s)) g.M.Machine.plain rules (λ s. s)
    (seen_behind_in_memory g.M.Machine.plain rules) s t turns p

use Rattle.std.proofs.Common.{refl}
use Rattle.hub.specs.Settlings.{settling}
use Rattle.hub.proofs.Trails.{one_trail}
use Rattle.hub.proofs.laws.one_trail_as_seen.Goals as goal

pub returns : goal.returns
returns g c = λ shows seen s t turns p.
    one_trail (settling g.M.Settling.plain g.M.Settling.is_settled g.M.Settling.settled) g.N.Machine.plain shows seen (λ door. refl) s t turns p

use Rattle.std.proofs.Common.{refl}
use Rattle.hub.specs.Settlings.{in_memory}
use Rattle.hub.proofs.Trails.{one_trail, seen_in_memory}
use Rattle.hub.proofs.laws.one_trail.Goals as goal

pub returns : goal.returns
returns g c = λ s t turns p. one_trail (in_memory g.M.Machine.plain) g.M.Machine.plain (λ s. s) (seen_in_memory g.M.Machine.plain) (λ door. refl) s t turns p

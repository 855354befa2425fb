use Rattle.std.proofs.Common.{◌≡◌, map, take}
use Rattle.site_checkpoint.proofs.ends.slots_of.Given as goal

abbrev pub invariant-loop-floor : goal.invariant-loop-floor
invariant-loop-floor l = l.slots.items ≡ map (λ f. f.place.slot) (take l.floor-index l.floors)

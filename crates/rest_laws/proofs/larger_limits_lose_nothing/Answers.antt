use Rattle.rest_laws.proofs.Larger.{larger-limits-take-back, larger-limits-keep-sound, smaller-limits-may-refuse}
use Rattle.rest_laws.proofs.larger_limits_lose_nothing.Goals as goal

pub returns-clause-takes : goal.returns-clause-takes
returns-clause-takes c = larger-limits-take-back

pub returns-clause-sound : goal.returns-clause-sound
returns-clause-sound c = larger-limits-keep-sound

pub returns-clause-smaller : goal.returns-clause-smaller
returns-clause-smaller c = smaller-limits-may-refuse

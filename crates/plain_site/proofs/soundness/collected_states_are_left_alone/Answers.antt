use Rattle.plain_site.proofs.CollectedStates.{collected-are-never-admitted, below-collected-is-turned-away}
use Rattle.plain_site.proofs.soundness.collected_states_are_left_alone.Goals as goal

pub returns-clause-admitted : goal.returns-clause-admitted
returns-clause-admitted c = collected-are-never-admitted

pub returns-clause-delivered : goal.returns-clause-delivered
returns-clause-delivered c = below-collected-is-turned-away

use Rattle.plain_dag.proofs.Collected.{collected-are-above-ceilings, stays-kept, collected-get-no-child}
use Rattle.plain_dag.proofs.landings.collected_states_are_out_of_the_way.Goals as goal

pub returns-clause-above_ceilings : goal.returns-clause-above_ceilings
returns-clause-above_ceilings c = collected-are-above-ceilings

pub returns-clause-kept : goal.returns-clause-kept
returns-clause-kept c = stays-kept

pub returns-clause-childless : goal.returns-clause-childless
returns-clause-childless c = collected-get-no-child

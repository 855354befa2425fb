use Rattle.plain_dag.proofs.Joining.{hands-over, collected-join}
use Rattle.plain_dag.proofs.landings.a_collected_state_hands_over.Goals as goal

pub returns-clause-hands_over : goal.returns-clause-hands_over
returns-clause-hands_over c = λ rs ks x s dag fresh shares. hands-over rs ks dag x s fresh shares

pub returns-clause-collected : goal.returns-clause-collected
returns-clause-collected c = collected-join

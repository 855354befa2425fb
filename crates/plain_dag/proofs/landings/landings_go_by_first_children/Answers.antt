use Rattle.plain_dag.proofs.Landing.{lands-by-first-children, lands-below}
use Rattle.plain_dag.proofs.landings.landings_go_by_first_children.Goals as goal

pub returns-clause-steps : goal.returns-clause-steps
returns-clause-steps c = lands-by-first-children

pub returns-clause-below : goal.returns-clause-below
returns-clause-below c = lands-below

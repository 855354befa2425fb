use Rattle.plain_dag.proofs.Leaves.{leaves-are-admitted, begins-at-leaves}
use Rattle.plain_dag.proofs.landings.leaves_are_admitted.Goals as goal

pub returns-clause-admitted : goal.returns-clause-admitted
returns-clause-admitted c = leaves-are-admitted

pub returns-clause-begins : goal.returns-clause-begins
returns-clause-begins c = begins-at-leaves

use Rattle.plain_dag.proofs.Landing.{true-commit}
use Rattle.plain_dag.proofs.landings.commits_are_true.Goals as goal

pub returns : goal.returns
returns c = record { flags = true-commit }

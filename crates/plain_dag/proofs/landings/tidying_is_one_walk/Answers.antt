use Rattle.plain_dag.proofs.Tidying.{tidies-in-one-walk}
use Rattle.plain_dag.proofs.landings.tidying_is_one_walk.Goals as goal

pub returns : goal.returns
returns c = record { walk = tidies-in-one-walk }

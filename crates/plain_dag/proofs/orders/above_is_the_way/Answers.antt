use Rattle.plain_dag.proofs.Order.{above-along-edges, above-is-the-way}
use Rattle.plain_dag.proofs.orders.above_is_the_way.Goals as goal

pub returns-clause-edges : goal.returns-clause-edges
returns-clause-edges c = above-along-edges

pub returns-clause-way : goal.returns-clause-way
returns-clause-way c = above-is-the-way

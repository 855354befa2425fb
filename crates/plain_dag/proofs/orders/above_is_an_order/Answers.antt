use Rattle.plain_dag.proofs.Order.{above-reflexive, above-transitive, above-antisymmetric, ancestors-arrive-earlier, ancestors-are-known, arrival-tells}
use Rattle.plain_dag.proofs.Order.{apart-means-incomparable}
use Rattle.plain_dag.proofs.orders.above_is_an_order.Goals as goal

pub returns-clause-reflexive : goal.returns-clause-reflexive
returns-clause-reflexive c = above-reflexive

pub returns-clause-transitive : goal.returns-clause-transitive
returns-clause-transitive c = above-transitive

pub returns-clause-antisymmetric : goal.returns-clause-antisymmetric
returns-clause-antisymmetric c = above-antisymmetric

pub returns-clause-arrival : goal.returns-clause-arrival
returns-clause-arrival c = ancestors-arrive-earlier

pub returns-clause-known : goal.returns-clause-known
returns-clause-known c = ancestors-are-known

pub returns-clause-one_by_one : goal.returns-clause-one_by_one
returns-clause-one_by_one c = arrival-tells

pub returns-clause-apart : goal.returns-clause-apart
returns-clause-apart c = apart-means-incomparable

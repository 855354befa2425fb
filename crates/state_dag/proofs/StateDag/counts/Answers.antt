use Rattle.std.proofs.Common.{subst}
use Rattle.state_dag.specs.Images.{IsTable}
use Rattle.state_dag.proofs.Lent.{seen-is_table}
use Rattle.state_dag.proofs.StateDag.counts.Goals as goal

pub returns-clause-table : goal.returns-clause-table
returns-clause-table c = subst IsTable c.self.view_is (seen-is_table c.self.inside c.self.invariant)

use Rattle.state_dag.specs.Views.{entry_of}
use Rattle.state_dag.proofs.Standing.{entry-is_kept}
use Rattle.state_dag.proofs.StateDag.id_of.Goals as goal

pub returns-clause-known : goal.returns-clause-known
returns-clause-known c = λ rs ks stands. entry-is_kept c.args.self.now rs ks stands c.args.slot (entry_of c.args.slot.0 c.node.result.now) c.node.ensures.entry

use Rattle.state_dag.specs.Views.{entry_of}
use Rattle.state_dag.proofs.Standing.{shown}
use Rattle.state_dag.proofs.StateDag.arrival.Goals as goal

pub returns-clause-arrival : goal.returns-clause-arrival
returns-clause-arrival c = λ rs ks stands x named.
    (shown c.args.self.now rs ks stands c.args.slot (entry_of c.args.slot.0 c.node.result.now) x c.node.ensures.entry named).arrived

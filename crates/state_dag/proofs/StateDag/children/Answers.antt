use Rattle.std.proofs.Common.{◌∙◌}
use Rattle.state_dag.specs.Views.{entry_of}
use Rattle.state_dag.proofs.Standing.{shown}
use Rattle.state_dag.proofs.StateDag.children.Goals as goal

pub returns : goal.returns
returns c = λ rs ks stands x named.
    c.as_slice.ensures ∙ (shown c.args.self.now rs ks stands c.args.slot (entry_of c.args.slot.0 c.node.result.now) x c.node.ensures.entry
    named).has_children

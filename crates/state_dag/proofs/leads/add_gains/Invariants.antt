use Rattle.std.proofs.Common.{◌≡◌, ◌++◌, take}
use Rattle.state_dag.specs.Nodes.{table_of, gains_at}
use Rattle.state_dag.proofs.leads.add_gains.Given as goal

abbrev pub invariant-loop-parent : goal.invariant-loop-parent
invariant-loop-parent l = l.gains.items ≡ l.fn.gains.items ++ gains_at (table_of l.nodes) (take l.parent-index l.parents) l.slot

use Rattle.std.proofs.Common.{◌≡◌, false, take}
use Rattle.state_dag.specs.Nodes.{table_of}
use Rattle.std.specs.List.{list_any}
use Rattle.state_dag.specs.Grown.{leads_first}
use Rattle.state_dag.proofs.new_paths.leads_to_some.Given as goal

abbrev pub invariant-loop-parent : goal.invariant-loop-parent
invariant-loop-parent l = list_any (λ p. leads_first (table_of l.nodes) p l.fork) (take l.parent-index l.parents) ≡ false

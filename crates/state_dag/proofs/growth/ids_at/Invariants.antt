use Rattle.std.proofs.Common.{◌≡◌, map, Some, take}
use Rattle.state_dag.specs.Table.{id_at}
use Rattle.state_dag.specs.Nodes.{table_of}
use Rattle.state_dag.proofs.growth.ids_at.Given as goal

abbrev pub invariant-loop-slot : goal.invariant-loop-slot
invariant-loop-slot l = map (λ x. Some x) l.ids.items ≡ map (id_at (table_of l.nodes)) (take l.slot-index l.slots)

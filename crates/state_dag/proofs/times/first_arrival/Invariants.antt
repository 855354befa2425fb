use Rattle.std.proofs.Common.{◌<◌, ◌≤◌, ℕ, get_or}
use Rattle.tardis_base.specs.declared.ids.Slot.{Slot}
use Rattle.state_dag.specs.Table.{arrival_at}
use Rattle.state_dag.specs.Nodes.{table_of}
use Rattle.state_dag.proofs.times.first_arrival.Given as goal

abbrev pub invariant-loop-slot : goal.invariant-loop-slot
invariant-loop-slot l = (k : ℕ) (d : Slot) → k < l.slot-index → l.first ≤ arrival_at (table_of l.nodes) (get_or l.slots k d)

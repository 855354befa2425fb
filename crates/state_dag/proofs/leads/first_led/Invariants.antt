use Rattle.std.proofs.Common.{◌≡◌, ◌<◌, ◌≤◌, ℕ, [], length, filter, get_or, take}
use Rattle.tardis_base.specs.declared.ids.Slot.{Slot}
use Rattle.state_dag.specs.Grown.{leads_first}
use Rattle.state_dag.specs.Nodes.{table_of}
use Rattle.state_dag.proofs.leads.first_led.Given as goal

abbrev pub invariant-loop-parent : goal.invariant-loop-parent
invariant-loop-parent l = (l.first ≤ length l.slots) × ((k : ℕ) (d : Slot) → k < l.first →
    filter (leads_first (table_of l.nodes) (get_or l.slots k d)) (take l.parent-index l.parents) ≡ [])

use Rattle.std.proofs.Common.{◌≡◌, Some, List, map, drop}
use Rattle.std.specs.List.{list_all}
use Rattle.tardis_base.specs.declared.ids.StateId.{StateId}
use Rattle.state_dag.specs.Table.{id_at}
use Rattle.state_dag.specs.Stands.{Stands}
use Rattle.plain_checkpoint.specs.Checkpoints.{Told, takes_child}
use Rattle.site_checkpoint.proofs.arrivals.take_children.Given as goal

abbrev pub invariant-loop-slot : goal.invariant-loop-slot
invariant-loop-slot l = (t : Told) → Stands l.dag t.dag t.collected → (xs : List StateId) → map (id_at l.dag) l.parents ≡ map (λ x. Some x) xs →
    list_all (takes_child l.dag.limits t) xs ≡ list_all (takes_child l.dag.limits t) (drop l.slot-index xs)

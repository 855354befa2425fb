use Rattle.std.proofs.Common.{◌≡◌, Some, List, map, drop}
use Rattle.std.specs.List.{list_all}
use Rattle.tardis_base.specs.declared.ids.StateId.{StateId}
use Rattle.plain_dag.specs.Collection.{kept_states}
use Rattle.state_dag.specs.Table.{id_at}
use Rattle.plain_checkpoint.specs.Checkpoints.{Told}
use Rattle.site_checkpoint.specs.Stands.{LoadedStands}
use Rattle.site_checkpoint.specs.Floors.{is_alone_or_above}
use Rattle.site_checkpoint.proofs.Checkpoint.has_closed.Given as goal

abbrev pub invariant-loop-slot : goal.invariant-loop-slot
invariant-loop-slot l = (t : Told) → LoadedStands l.self t → (xs : List StateId) → map (id_at l.self.store.table) l.floors ≡ map (λ x. Some x) xs →
    list_all (is_alone_or_above t.dag t.collected xs) (kept_states t.dag t.collected)
    ≡ list_all (is_alone_or_above t.dag t.collected xs) (drop l.slot-index (kept_states t.dag t.collected))

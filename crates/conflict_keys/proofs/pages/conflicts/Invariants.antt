use Rattle.std.proofs.Common.{◌≡◌, List, Some, map, take}
use Rattle.tardis_base.specs.declared.ids.StateId.{StateId}
use Rattle.tardis_base.specs.declared.records.Record.{Record}
use Rattle.state_dag.specs.Table.{id_at}
use Rattle.record_store.specs.Stands.{StoreStands}
use Rattle.branch_region.specs.Regions.{apart_states}
use Rattle.conflict_keys.specs.Regions.{is_met}
use Rattle.conflict_keys.specs.Pages.{AreNoted, is_conflict_behind}
use Rattle.conflict_keys.proofs.pages.conflicts.Given as goal

abbrev pub invariant-loop-slot : goal.invariant-loop-slot
invariant-loop-slot l = (rs : List Record) (ks : List StateId) → StoreStands l.store rs ks → (xs : List StateId) → map (id_at l.store.table) l.states
    ≡ map (λ x. Some x) xs →
    AreNoted (is_conflict_behind rs xs l.after) (is_met rs ks xs (take l.slot-index (apart_states rs ks xs))) l.noted.keys

use Rattle.std.proofs.Common.{◌≡◌, List, Some, map, take}
use Rattle.tardis_base.specs.declared.ids.StateId.{StateId}
use Rattle.tardis_base.specs.declared.records.Record.{Record}
use Rattle.state_dag.specs.Table.{id_at}
use Rattle.record_store.specs.Stands.{StoreStands}
use Rattle.plain_dag.specs.Collection.{kept_states}
use Rattle.conflict_keys.specs.Regions.{is_met}
use Rattle.std.specs.Option.{option_copied}
use Rattle.conflict_keys.specs.Opens.{IsLeast, is_open_conflict}
use Rattle.conflict_keys.proofs.opens.first_open.Given as goal

abbrev pub invariant-loop-slot : goal.invariant-loop-slot
invariant-loop-slot l = (rs : List Record) (ks : List StateId) → StoreStands l.store rs ks → (xs : List StateId) → map (id_at l.store.table) l.states
    ≡ map (λ x. Some x) xs →
    IsLeast (is_open_conflict rs xs l.writes) (is_met rs ks xs (take l.slot-index (kept_states rs ks))) (option_copied l.least)

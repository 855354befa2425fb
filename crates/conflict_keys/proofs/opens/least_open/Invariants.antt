use Rattle.std.proofs.Common.{◌≡◌, ◌||◌, ℕ, Bool, List, Some, map, take}
use Rattle.std.specs.Option.{option_copied}
use Rattle.tardis_base.specs.declared.ids.StateId.{StateId}
use Rattle.tardis_base.specs.declared.records.Record.{Record}
use Rattle.tardis_base.specs.Keys.{is_key_among}
use Rattle.state_dag.specs.Table.{id_at}
use Rattle.record_store.specs.Stands.{StoreStands}
use Rattle.conflict_keys.specs.Opens.{IsLeast, is_open_conflict}
use Rattle.conflict_keys.proofs.opens.least_open.Given as goal

abbrev pub invariant-loop-key : goal.invariant-loop-key
invariant-loop-key l = (rs : List Record) (ks : List StateId) → StoreStands l.store rs ks → (xs : List StateId) → map (id_at l.store.table) l.states
    ≡ map (λ x. Some x) xs → (met : List ℕ → Bool) → IsLeast (is_open_conflict rs xs l.writes) met (option_copied l.found) →
    IsLeast (is_open_conflict rs xs l.writes) (λ k. met k || is_key_among k (take l.key-index l.keys)) (option_copied l.least)

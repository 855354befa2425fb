use Rattle.std.proofs.Common.{◌≡◌, ◌||◌, ℕ, Bool, List, Some, map, take}
use Rattle.tardis_base.specs.declared.ids.StateId.{StateId}
use Rattle.tardis_base.specs.declared.records.Record.{Record}
use Rattle.tardis_base.specs.Keys.{is_key_among}
use Rattle.state_dag.specs.Table.{id_at}
use Rattle.record_store.specs.Stands.{StoreStands}
use Rattle.conflict_keys.specs.Pages.{AreNoted, is_conflict_behind}
use Rattle.conflict_keys.proofs.pages.note_conflicts.Given as goal

abbrev pub invariant-loop-key : goal.invariant-loop-key
invariant-loop-key l = (rs : List Record) (ks : List StateId) → StoreStands l.store rs ks → (xs : List StateId) → map (id_at l.store.table) l.states
    ≡ map (λ x. Some x) xs → (met : List ℕ → Bool) → AreNoted (is_conflict_behind rs xs l.after) met l.fn.noted.keys →
    AreNoted (is_conflict_behind rs xs l.after) (λ k. met k || is_key_among k (take l.key-index l.keys)) l.noted.keys

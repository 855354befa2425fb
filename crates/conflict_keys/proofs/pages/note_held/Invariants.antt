use Rattle.std.proofs.Common.{◌≡◌, ◌++◌, ◌||◌, ℕ, Bool, List, Some, map}
use Rattle.tardis_base.specs.declared.ids.StateId.{StateId}
use Rattle.tardis_base.specs.declared.records.Record.{Record}
use Rattle.state_dag.specs.Table.{id_at}
use Rattle.version_list.specs.Versions.{Chunks, is_key_in}
use Rattle.record_store.specs.Stands.{StoreStands}
use Rattle.conflict_keys.specs.Pages.{AreNoted, is_conflict_behind}
use Rattle.conflict_keys.proofs.pages.note_held.Given as goal

abbrev pub invariant-loop-chunk : goal.invariant-loop-chunk
invariant-loop-chunk l = record {
  done : Chunks;
  all : done ++ l.chunk-iterator ≡ l.chunks;
  so_far : (rs : List Record) (ks : List StateId) → StoreStands l.store rs ks → (xs : List StateId) → map (id_at l.store.table) l.states
      ≡ map (λ x. Some x) xs → (met : List ℕ → Bool) → AreNoted (is_conflict_behind rs xs l.after) met l.fn.noted.keys →
      AreNoted (is_conflict_behind rs xs l.after) (λ k. met k || is_key_in k done) l.noted.keys;
}

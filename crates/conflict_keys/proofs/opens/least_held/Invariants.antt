use Rattle.std.proofs.Common.{◌≡◌, ◌++◌, ◌||◌, ℕ, Bool, List, Some, map}
use Rattle.std.specs.Option.{option_copied}
use Rattle.tardis_base.specs.declared.ids.StateId.{StateId}
use Rattle.tardis_base.specs.declared.records.Record.{Record}
use Rattle.state_dag.specs.Table.{id_at}
use Rattle.version_list.specs.Versions.{Chunks, is_key_in}
use Rattle.record_store.specs.Stands.{StoreStands}
use Rattle.conflict_keys.specs.Opens.{IsLeast, is_open_conflict}
use Rattle.conflict_keys.proofs.opens.least_held.Given as goal

abbrev pub invariant-loop-chunk : goal.invariant-loop-chunk
invariant-loop-chunk l = record {
  done : Chunks;
  all : done ++ l.chunk-iterator ≡ l.chunks;
  so_far : (rs : List Record) (ks : List StateId) → StoreStands l.store rs ks → (xs : List StateId) → map (id_at l.store.table) l.states
      ≡ map (λ x. Some x) xs → (met : List ℕ → Bool) → IsLeast (is_open_conflict rs xs l.writes) met (option_copied l.found) →
      IsLeast (is_open_conflict rs xs l.writes) (λ k. met k || is_key_in k done) (option_copied l.least);
}

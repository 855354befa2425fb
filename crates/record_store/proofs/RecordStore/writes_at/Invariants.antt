use Rattle.std.proofs.Common.{◌≡◌, ◌++◌, ℕ, List, Some, IsTrue}
use Rattle.tardis_base.specs.declared.ids.StateId.{StateId}
use Rattle.tardis_base.specs.declared.records.Record.{Record}
use Rattle.tardis_base.specs.Keys.{keys_of, are_ascending_keys}
use Rattle.state_dag.specs.Table.{id_at}
use Rattle.version_list.specs.Versions.{Chunks, is_key_in, versions_of, has_version_at}
use Rattle.record_store.specs.Stands.{StoreStands}
use Rattle.record_store.specs.Answers.{HasReads, read_write}
use Rattle.record_store.proofs.RecordStore.writes_at.Given as goal

abbrev pub invariant-loop-chunk : goal.invariant-loop-chunk
invariant-loop-chunk l = record {
  done : Chunks;
  all : (k : List ℕ) → is_key_in k (done ++ l.chunk-iterator) ≡ has_version_at l.slot (versions_of l.self.versions k);
  ascending : IsTrue (are_ascending_keys (keys_of l.writes));
  reads : (rs : List Record) (ks : List StateId) → StoreStands l.self rs ks → (x : StateId) → id_at l.self.table l.slot ≡ Some x →
      HasReads (read_write rs x) (λ k. is_key_in k done) l.writes;
}

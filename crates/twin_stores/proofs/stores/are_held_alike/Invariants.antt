use Rattle.std.proofs.Common.{◌≡◌, ◌++◌, List, Some}
use Rattle.tardis_base.specs.declared.ids.StateId.{StateId}
use Rattle.tardis_base.specs.declared.records.Record.{Record}
use Rattle.state_dag.specs.Table.{id_at}
use Rattle.version_list.specs.Versions.{Chunks, is_key_in}
use Rattle.record_store.specs.Stands.{StoreStands}
use Rattle.twin_stores.specs.Reads.{AreReadAlike}
use Rattle.twin_stores.proofs.stores.are_held_alike.Given as goal

abbrev pub invariant-loop-chunk : goal.invariant-loop-chunk
invariant-loop-chunk l = record {
  done : Chunks;
  all : done ++ l.chunk-iterator ≡ l.chunks;
  so_far : (rs rs' : List Record) (ks ks' : List StateId) → StoreStands l.one rs ks → StoreStands l.other rs' ks' → (x : StateId) →
      id_at l.one.table l.slot ≡ Some x → id_at l.other.table l.at ≡ Some x → AreReadAlike rs rs' ks' x (λ k. is_key_in k done);
}

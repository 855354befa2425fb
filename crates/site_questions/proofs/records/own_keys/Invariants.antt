use Rattle.std.proofs.Common.{◌≡◌, ◌++◌, ◌&&◌, ℕ, List, Some}
use Rattle.tardis_base.specs.declared.ids.StateId.{StateId}
use Rattle.tardis_base.specs.declared.records.Record.{Record}
use Rattle.tardis_base.specs.Keys.{is_key_among}
use Rattle.state_dag.specs.Table.{id_at}
use Rattle.version_list.specs.Versions.{Chunks, is_key_in}
use Rattle.record_store.specs.Stands.{StoreStands, holds_key}
use Rattle.site_questions.specs.Own.{is_own}
use Rattle.site_questions.proofs.records.own_keys.Given as goal

abbrev pub invariant-loop-chunk : goal.invariant-loop-chunk
invariant-loop-chunk l = record {
  done : Chunks;
  all : (rs : List Record) (ks : List StateId) → StoreStands l.store rs ks → (x : StateId) → id_at l.store.table l.slot ≡ Some x → (k : List ℕ) →
      is_key_in k (done ++ l.chunk-iterator) ≡ holds_key rs ks k x;
  own : (rs : List Record) (ks : List StateId) → StoreStands l.store rs ks → (x : StateId) → id_at l.store.table l.slot ≡ Some x → (k : List ℕ) →
      is_key_among k l.own ≡ (is_key_in k done && is_own rs x k);
}

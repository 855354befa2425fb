use Rattle.std.proofs.Common.{◌≡◌, ◌||◌, ℕ, Bool, take, List, Some, IsTrue}
use Rattle.tardis_base.specs.declared.ids.StateId.{StateId}
use Rattle.tardis_base.specs.declared.records.Record.{Record}
use Rattle.tardis_base.specs.Keys.{is_key_among, keys_of, are_ascending_keys}
use Rattle.state_dag.specs.Table.{id_at}
use Rattle.record_store.specs.Stands.{StoreStands}
use Rattle.record_store.specs.Answers.{HasReads, read_write}
use Rattle.record_store.proofs.RecordStore.add_reads.Given as goal

abbrev pub invariant-loop-key : goal.invariant-loop-key
invariant-loop-key l = record {
  ascending : IsTrue (are_ascending_keys (keys_of l.fn.writes)) → IsTrue (are_ascending_keys (keys_of l.writes));
  reads : (rs : List Record) (ks : List StateId) → StoreStands l.self rs ks → (x : StateId) → id_at l.self.table l.slot ≡ Some x → (met : List ℕ → Bool) →
      HasReads (read_write rs x) met l.fn.writes →
      HasReads (read_write rs x) (λ k. met k || is_key_among k (take l.key-index l.keys)) l.writes;
}

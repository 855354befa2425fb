use Rattle.std.proofs.Common.{◌≡◌, ◌++◌, List, [], map, filter_map, drop, Some}
use Rattle.tardis_base.specs.declared.ids.StateId.{StateId}
use Rattle.tardis_base.specs.declared.records.Record.{Record}
use Rattle.state_dag.specs.Table.{id_at}
use Rattle.record_store.specs.Stands.{StoreStands}
use Rattle.plain_questions.specs.Answer.{first_entries}
use Rattle.plain_questions.specs.Contents.{entry_at}
use Rattle.site_questions.proofs.Paging.{told_behind}
use Rattle.site_questions.proofs.pages.entries_of.Given as goal

abbrev pub invariant-loop-key : goal.invariant-loop-key
invariant-loop-key l = record {
  start : l.first ≡ [] → l.room ≡ 65536;
  told : (rs : List Record) (ks : List StateId) → StoreStands l.store rs ks → (x : StateId) → id_at l.store.table l.slot ≡ Some x →
      l.first ++ told_behind l.first l.room (filter_map (entry_at rs x) (map (λ k. k.now) (drop l.key-index l.keys)))
      ≡ first_entries (filter_map (entry_at rs x) (map (λ k. k.now) l.keys));
}

use Rattle.std.proofs.Common.{◌≡◌, false, List, Some, take}
use Rattle.std.specs.List.{list_any}
use Rattle.tardis_base.specs.declared.ids.StateId.{StateId}
use Rattle.tardis_base.specs.declared.records.Record.{Record}
use Rattle.plain_dag.specs.Landing.{is_news}
use Rattle.state_dag.specs.Table.{id_at}
use Rattle.record_store.specs.Stands.{StoreStands}
use Rattle.ripple_commit.proofs.is_read_news.Given as goal

abbrev pub invariant-loop-key : goal.invariant-loop-key
invariant-loop-key l = (rs : List Record) (ks : List StateId) → StoreStands l.store rs ks → (x c : StateId) → id_at l.store.table l.from ≡ Some x →
    id_at l.store.table l.child ≡ Some c →
    list_any (is_news rs x c) (take l.key-index l.keys) ≡ false

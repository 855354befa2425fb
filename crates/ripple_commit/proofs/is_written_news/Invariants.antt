use Rattle.std.proofs.Common.{◌≡◌, false, List, Some, take}
use Rattle.std.specs.List.{list_any}
use Rattle.tardis_base.specs.declared.ids.StateId.{StateId}
use Rattle.tardis_base.specs.declared.records.Record.{Record}
use Rattle.plain_dag.specs.Landing.{is_news}
use Rattle.state_dag.specs.Table.{id_at}
use Rattle.record_store.specs.Stands.{StoreStands}
use Rattle.ripple_commit.proofs.is_written_news.Given as goal

abbrev pub invariant-loop-write : goal.invariant-loop-write
invariant-loop-write l = (rs : List Record) (ks : List StateId) → StoreStands l.store rs ks → (x c : StateId) → id_at l.store.table l.from ≡ Some x →
    id_at l.store.table l.child ≡ Some c →
    list_any (λ w. is_news rs x c w.0) (take l.write-index l.writes) ≡ false

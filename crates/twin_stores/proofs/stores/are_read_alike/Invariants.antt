use Rattle.std.proofs.Common.{◌≡◌, List, Some, take}
use Rattle.tardis_base.specs.declared.ids.StateId.{StateId}
use Rattle.tardis_base.specs.declared.records.Record.{Record}
use Rattle.tardis_base.specs.Keys.{is_key_among}
use Rattle.state_dag.specs.Table.{id_at}
use Rattle.record_store.specs.Stands.{StoreStands}
use Rattle.twin_stores.specs.Reads.{AreReadAlike}
use Rattle.twin_stores.proofs.stores.are_read_alike.Given as goal

abbrev pub invariant-loop-key : goal.invariant-loop-key
invariant-loop-key l = (rs rs' : List Record) (ks ks' : List StateId) → StoreStands l.one rs ks → StoreStands l.other rs' ks' → (x : StateId) →
    id_at l.one.table l.slot ≡ Some x → id_at l.other.table l.at ≡ Some x → AreReadAlike rs rs' ks' x (λ k. is_key_among k (take l.key-index l.keys))

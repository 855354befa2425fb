use Rattle.std.proofs.Common.{◌≡◌, ◌<◌, ℕ, List, Some, slice_get}
use Rattle.tardis_base.specs.declared.ids.StateId.{StateId}
use Rattle.tardis_base.specs.declared.records.Record.{Record}
use Rattle.plain_dag.specs.Collection.{kept_states}
use Rattle.record_store.specs.Stands.{StoreStands}
use Rattle.twin_stores.specs.Reads.{IsHeldAlike}
use Rattle.twin_stores.proofs.stores.hold_the_same.Given as goal

abbrev pub invariant-loop-place : goal.invariant-loop-place
invariant-loop-place l = (rs rs' : List Record) (ks ks' : List StateId) → StoreStands l.one rs ks → StoreStands l.other rs' ks' →
    kept_states rs ks ≡ kept_states rs' ks' → (j : ℕ) → j < l.place → (x : StateId) → slice_get (kept_states rs ks) j ≡ Some x →
    IsHeldAlike rs ks rs' ks' x × IsHeldAlike rs' ks' rs ks x

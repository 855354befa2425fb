use Rattle.std.proofs.Common.{◌≡◌, false, List, Some, take, IsTrue, IsFalse}
use Rattle.std.specs.List.{list_any}
use Rattle.tardis_base.specs.declared.ids.StateId.{StateId}
use Rattle.tardis_base.specs.declared.records.Record.{Record}
use Rattle.tardis_base.specs.Ids.{is_among}
use Rattle.tardis_base.specs.Keys.{keys_of}
use Rattle.plain_dag.specs.States.{children}
use Rattle.plain_dag.specs.Landing.{passes, guarded}
use Rattle.state_dag.specs.Table.{id_at}
use Rattle.record_store.specs.Stands.{StoreStands}
use Rattle.ripple_commit.proofs.first_passing.Given as goal

abbrev pub invariant-loop-place : goal.invariant-loop-place
invariant-loop-place l = (rs : List Record) (ks : List StateId) → StoreStands l.store rs ks → (x : StateId) → id_at l.store.table l.from ≡ Some x →
    ((c : StateId) → IsTrue (is_among c (children rs x)) → IsFalse (is_among c ks)) →
    list_any (passes rs (guarded l.flags l.reads (keys_of l.writes)) x) (take l.place (children rs x)) ≡ false

use Rattle.std.proofs.Common.{◌≡◌, List, Some, IsTrue, IsFalse}
use Rattle.tardis_base.specs.declared.ids.StateId.{StateId}
use Rattle.tardis_base.specs.declared.records.Record.{Record}
use Rattle.tardis_base.specs.Ids.{is_among}
use Rattle.tardis_base.specs.Keys.{keys_of}
use Rattle.plain_dag.specs.Above.{is_above}
use Rattle.plain_dag.specs.Landing.{guarded}
use Rattle.state_dag.specs.Table.{id_at, is_slot}
use Rattle.record_store.specs.Stands.{StoreStands}
use Rattle.ripple_commit.proofs.Ways.{IsOnWay}
use Rattle.ripple_commit.proofs.landing.Given as goal

abbrev pub invariant-loop-reached : goal.invariant-loop-reached
invariant-loop-reached l = record {
  slot : IsTrue (is_slot l.store.table l.at);
  way : (rs : List Record) (ks : List StateId) → StoreStands l.store rs ks → (x : StateId) → id_at l.store.table l.fn.read ≡ Some x →
      ((y : StateId) → IsTrue (is_above rs x y) → IsFalse (is_among y ks)) →
      (y : StateId) → id_at l.store.table l.at ≡ Some y → IsOnWay rs (guarded l.flags l.reads (keys_of l.writes)) x y l._reached;
}

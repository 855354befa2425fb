use Rattle.std.proofs.Common.{◌≡◌, List, length, take, IsTrue}
use Rattle.std.specs.List.{list_any, list_all}
use Rattle.tardis_base.specs.declared.ids.StateId.{StateId}
use Rattle.tardis_base.specs.declared.ids.Slot.{Slot}
use Rattle.tardis_base.specs.declared.records.Record.{Record}
use Rattle.state_dag.specs.Table.{is_slot, is_slot_above}
use Rattle.state_dag.specs.Stands.{Stands}
use Rattle.branch_region.specs.Marks.{is_marked}
use Rattle.branch_region.proofs.marks.Marks.of.Given as goal

abbrev pub invariant-loop-state : goal.invariant-loop-state
invariant-loop-state l = record {
  one_count : length l.one.items ≡ l.count;
  all_count : length l.all.items ≡ l.count;
  one_is : (rs : List Record) (ks : List StateId) → Stands l.dag rs ks → (s : Slot) → IsTrue (is_slot l.dag s) →
      is_marked l.one.items s ≡ list_any (is_slot_above l.dag s) (take l.state-index l.states);
  all_is : (rs : List Record) (ks : List StateId) → Stands l.dag rs ks → (s : Slot) → IsTrue (is_slot l.dag s) →
      is_marked l.all.items s ≡ list_all (is_slot_above l.dag s) (take l.state-index l.states);
}

use Rattle.std.proofs.Common.{◌≡◌, ◌<◌, ◌≤◌, ℕ, Bool, false, IsTrue, length, get_or, take, vec_len, vec_capacity}
use Rattle.std.specs.List.{list_all}
use Rattle.tardis_base.specs.declared.ids.Slot.{Slot}
use Rattle.state_dag.specs.declared.nodes.Node.{Node}
use Rattle.state_dag.specs.Grown.{is_slot_among, KeepsPlaces}
use Rattle.state_dag.specs.Nodes.{AreDistinct, HasChild}
use Rattle.state_dag.proofs.changes.add_children.Given as goal

abbrev pub invariant-loop-parent : goal.invariant-loop-parent
invariant-loop-parent l = record {
  count : length l.nodes.items ≡ length l.fn.nodes.items;
  len : vec_len l.nodes ≡ vec_len l.fn.nodes;
  capacity : vec_capacity l.nodes ≡ vec_capacity l.fn.nodes;
  rest : (k : ℕ) (d : Node) → get_or l.nodes.items k d ≡ record (get_or l.fn.nodes.items k d) {
    children = (get_or l.nodes.items k d).children;
    stand_ins =
        (get_or l.nodes.items k d).stand_ins;
  };
  others : (k : ℕ) (d : Node) → is_slot_among (record { 0 = k }) (take l.parent-index l.parents) ≡ false → get_or l.nodes.items k d
      ≡ get_or l.fn.nodes.items k d;
  each : AreDistinct l.parents → (k : ℕ) (d : Node) → k < length l.nodes.items →
      HasChild l.id l.slot (take l.parent-index l.parents) k (get_or l.fn.nodes.items k d) (get_or l.nodes.items k d);
  parent : (k : ℕ) (d : Node) → k < length l.nodes.items → IsTrue (is_slot_among (record { 0 = k }) (take l.parent-index l.parents)) →
      1 ≤ length (get_or l.nodes.items k d).children.items;
  slots : (test : Slot → Bool) (k : ℕ) (d : Node) → k < length l.nodes.items → IsTrue (list_all test (get_or l.fn.nodes.items k d).stand_ins.items) →
      IsTrue (test l.slot) → IsTrue (list_all test (get_or l.nodes.items k d).stand_ins.items);
  places : (k : ℕ) (d : Node) → k < length l.nodes.items →
      KeepsPlaces (get_or l.fn.nodes.items k d).stand_ins.items (get_or l.nodes.items k d).stand_ins.items;
}

use Rattle.std.proofs.Common.{◌≡◌, ◌<◌, ◌≤◌, ℕ, length, IsTrue, get_or, take}
use Rattle.state_dag.specs.declared.nodes.Node.{Node}
use Rattle.state_dag.specs.Views.{entries_from}
use Rattle.state_dag.specs.Nodes.{is_gaining}
use Rattle.state_dag.proofs.rooms.make_path_room.Given as goal

abbrev pub invariant-loop-gain : goal.invariant-loop-gain
invariant-loop-gain l = record {
  count : length l.nodes.items ≡ length l.fn.nodes.items;
  same : entries_from 0 l.nodes.items ≡ entries_from 0 l.fn.nodes.items;
  room : (k : ℕ) (d : Node) → k < length l.nodes.items → IsTrue (is_gaining k (take l.gain-index l.gains)) → l.room ≤ (get_or l.nodes.items k d).path.room;
}

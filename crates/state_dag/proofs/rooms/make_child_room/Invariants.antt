use Rattle.std.proofs.Common.{◌≡◌, ℕ, length, get_or, take}
use Rattle.state_dag.specs.declared.nodes.Node.{Node}
use Rattle.state_dag.specs.Views.{entries_from}
use Rattle.state_dag.specs.Nodes.{HasChildRoom}
use Rattle.state_dag.proofs.rooms.make_child_room.Given as goal

abbrev pub invariant-loop-parent : goal.invariant-loop-parent
invariant-loop-parent l = record {
  count : length l.nodes.items ≡ length l.fn.nodes.items;
  same : entries_from 0 l.nodes.items ≡ entries_from 0 l.fn.nodes.items;
  paths : (k : ℕ) (d : Node) → (get_or l.nodes.items k d).path ≡ (get_or l.fn.nodes.items k d).path;
  room : HasChildRoom l.nodes.items (take l.parent-index l.parents);
}

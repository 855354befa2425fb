use Rattle.std.proofs.Common.{◌≡◌, ◌<◌, ◌≤◌, ℕ, length, get_or, take, drop, vec_len, vec_capacity}
use Rattle.state_dag.specs.declared.nodes.Node.{Node}
use Rattle.state_dag.specs.Nodes.{gains_of, HasGained}
use Rattle.state_dag.proofs.changes.grow_paths.Given as goal

abbrev pub invariant-loop-gain : goal.invariant-loop-gain
invariant-loop-gain l = record {
  count : length l.nodes.items ≡ length l.fn.nodes.items;
  len : vec_len l.nodes ≡ vec_len l.fn.nodes;
  capacity : vec_capacity l.nodes ≡ vec_capacity l.fn.nodes;
  each : (k : ℕ) (d : Node) → k < length l.nodes.items → HasGained (take l.gain-index l.gains) k (get_or l.fn.nodes.items k d) (get_or l.nodes.items k d);
  spare : (k : ℕ) (d : Node) → k < length l.nodes.items → gains_of k (drop l.gain-index l.gains) ≤ (get_or l.nodes.items k d).path.room;
}

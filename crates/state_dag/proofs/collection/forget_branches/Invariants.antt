use Rattle.std.proofs.Common.{◌≡◌, ◌<◌, ℕ, true, IsTrue, length, get_or, take}
use Rattle.fork_path.specs.Pairs.{are_ascending_pairs}
use Rattle.state_dag.specs.declared.nodes.Node.{Node}
use Rattle.state_dag.specs.Views.{entry_of}
use Rattle.state_dag.specs.Detached.{forgetting, changed_at}
use Rattle.state_dag.proofs.collection.forget_branches.Given as goal

abbrev pub invariant-loop-slot : goal.invariant-loop-slot
invariant-loop-slot l = record {
  count : length l.nodes.items ≡ length l.fn.nodes.items;
  each : (k : ℕ) (d : Node) → k < length l.nodes.items → entry_of k (get_or l.nodes.items k d)
      ≡ changed_at (forgetting l.gone true) (take l.slot-index l.slots) (entry_of k (get_or l.fn.nodes.items k d));
  ascending : (k : ℕ) (d : Node) → k < length l.nodes.items → IsTrue (are_ascending_pairs (get_or l.fn.nodes.items k d).path.pairs) →
      IsTrue (are_ascending_pairs (get_or l.nodes.items k d).path.pairs);
}

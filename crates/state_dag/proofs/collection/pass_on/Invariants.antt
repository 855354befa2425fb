use Rattle.std.proofs.Common.{◌≡◌, ◌<◌, ℕ, length, get_or, take}
use Rattle.state_dag.specs.declared.nodes.Node.{Node}
use Rattle.state_dag.specs.Views.{entry_of}
use Rattle.state_dag.specs.Detached.{passing_on, changed_at}
use Rattle.state_dag.proofs.collection.pass_on.Given as goal

abbrev pub invariant-loop-slot : goal.invariant-loop-slot
invariant-loop-slot l = record {
  count : length l.nodes.items ≡ length l.fn.nodes.items;
  each : (k : ℕ) (d : Node) → k < length l.nodes.items → entry_of k (get_or l.nodes.items k d)
      ≡ changed_at (passing_on l.gone l.heir) (take l.slot-index l.slots) (entry_of k (get_or l.fn.nodes.items k d));
  paths : (k : ℕ) (d : Node) → (get_or l.nodes.items k d).path ≡ (get_or l.fn.nodes.items k d).path;
}

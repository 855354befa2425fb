use Rattle.std.proofs.Common.{◌≡◌, ◌||◌, ℕ, IsTrue, take}
use Rattle.std.specs.List.{list_any}
use Rattle.fork_path.specs.Pairs.{are_ascending_pairs, has_pair}
use Rattle.state_dag.specs.Grown.{path_at}
use Rattle.state_dag.specs.Nodes.{table_of}
use Rattle.state_dag.proofs.new_paths.unite_paths.Given as goal

abbrev pub invariant-loop-parent : goal.invariant-loop-parent
invariant-loop-parent l = record {
  pairs : (pair : ℕ × ℕ) → has_pair pair l.path.pairs ≡ (list_any (λ p. has_pair pair (path_at (table_of l.nodes) p)) (take l.parent-index l.parents) ||
      has_pair pair l.fn.path.pairs);
  ascending : IsTrue (are_ascending_pairs l.fn.path.pairs) → IsTrue (are_ascending_pairs l.path.pairs);
}

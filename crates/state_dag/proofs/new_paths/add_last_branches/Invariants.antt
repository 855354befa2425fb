use Rattle.std.proofs.Common.{◌≡◌, ◌||◌, ℕ, IsTrue, take}
use Rattle.fork_path.specs.Pairs.{are_ascending_pairs, has_pair}
use Rattle.state_dag.specs.Grown.{is_last_branch}
use Rattle.state_dag.specs.Nodes.{table_of}
use Rattle.state_dag.proofs.new_paths.add_last_branches.Given as goal

abbrev pub invariant-loop-parent : goal.invariant-loop-parent
invariant-loop-parent l = record {
  pairs : (pair : ℕ × ℕ) → has_pair pair l.path.pairs ≡ (is_last_branch (table_of l.nodes) (take l.parent-index l.parents) pair || has_pair pair
      l.fn.path.pairs);
  ascending : IsTrue (are_ascending_pairs l.fn.path.pairs) → IsTrue (are_ascending_pairs l.path.pairs);
}

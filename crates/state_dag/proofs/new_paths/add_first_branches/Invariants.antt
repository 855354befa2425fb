use Rattle.std.proofs.Common.{◌≡◌, ◌||◌, ◌&&◌, ℕ, IsTrue, take}
use Rattle.std.specs.List.{list_any}
use Rattle.fork_path.specs.Pairs.{are_ascending_pairs, is_same_pair, has_pair}
use Rattle.state_dag.specs.Nodes.{table_of, leads_to_some}
use Rattle.state_dag.proofs.new_paths.add_first_branches.Given as goal

abbrev pub invariant-loop-parent : goal.invariant-loop-parent
invariant-loop-parent l = record {
  pairs : (pair : ℕ × ℕ) → has_pair pair l.path.pairs ≡ (list_any (λ p. is_same_pair pair (p.0, 0) && leads_to_some (table_of l.nodes) l.parents p)
      (take l.parent-index l.parents) || has_pair pair l.fn.path.pairs);
  ascending : IsTrue (are_ascending_pairs l.fn.path.pairs) → IsTrue (are_ascending_pairs l.path.pairs);
}

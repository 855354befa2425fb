use Rattle.std.proofs.Common.{◌≡◌, ◌++◌, ℕ, filter, map}
use Rattle.std.specs.List.{range_with_len}
use Rattle.tardis_base.specs.declared.ids.StateId.{StateId}
use Rattle.fork_path.specs.Pairs.{has_pair}
use Rattle.state_dag.proofs.named_paths.add_branches.Given as goal

abbrev pub invariant-loop-branch : goal.invariant-loop-branch
invariant-loop-branch l =
    l.named.items ≡ l.fn.named.items ++ filter (λ (b : StateId × ℕ). has_pair (l.slot.0, b.1) l.path.pairs)
    (map (λ n. (l.node.id, n)) (range_with_len 0 l.branch))

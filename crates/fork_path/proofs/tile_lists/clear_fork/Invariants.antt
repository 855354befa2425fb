use Rattle.fork_path.proofs.TileLists.{ForkCleared}
use Rattle.fork_path.proofs.tile_lists.clear_fork.Given as goal

abbrev pub invariant-loop-place : goal.invariant-loop-place
invariant-loop-place l = ForkCleared l.fork l.fn.tiles l.tiles l.first l.place l.is_one_empty

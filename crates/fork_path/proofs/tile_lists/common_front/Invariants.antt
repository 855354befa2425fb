use Rattle.std.proofs.Common.{◌≡◌, take}
use Rattle.fork_path.proofs.tile_lists.common_front.Given as goal

abbrev pub invariant-loop-place : goal.invariant-loop-place
invariant-loop-place l = take l.place l.a ≡ take l.place l.b

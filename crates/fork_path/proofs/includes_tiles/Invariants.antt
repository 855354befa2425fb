use Rattle.std.proofs.Common.{◌≡◌, ℕ, true, drop}
use Rattle.fork_path.specs.Tiles.{some_holds}
use Rattle.fork_path.proofs.includes_tiles.Given as goal

abbrev pub invariant-loop-place : goal.invariant-loop-place
invariant-loop-place l = (p : ℕ × ℕ) → some_holds (drop l.place l.others) p ≡ true → some_holds l.own p ≡ true

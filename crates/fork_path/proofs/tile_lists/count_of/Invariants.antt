use Rattle.std.proofs.Common.{◌≡◌, ℕ, ◌<◌, ◌≤◌, ◌*◌, ◌^◌, take, get_or}
use Rattle.std.specs.Prelude.{sum_by, count_ones}
use Rattle.fork_path.proofs.tile_lists.count_of.Given as goal

abbrev pub invariant-loop-tile : goal.invariant-loop-tile
invariant-loop-tile l = record {
  sum : l.pairs ≡ sum_by (λ t. count_ones t.bits) (take l.tile-index l.tiles);
  bound : l.pairs ≤ 64 * l.tile-index;
  words : (k : ℕ) → k < l.tile-index → (get_or l.tiles k (record { forks = 0; branches = 0; bits = 0 })).bits < 2 ^ 64;
}

-- Which tiles a path has.
use Rattle.std.specs.Prelude.{◌≤◌, ◌^◌, List, length, IsTrue}
use Rattle.std.specs.List.{All}
use Rattle.fork_path.specs.declared.tiles.Tile.{Tile}
use Rattle.fork_path.specs.Pairs.{are_ascending_pairs}
use Rattle.fork_path.specs.Tiles.{keys_of, HoldsPair}

-- they are the tiles of a path: each stands before the next, none is without a pair, and there are not too many
pub record AreTiles (tiles : List Tile) : Type 0 where
  pub in_order : IsTrue (are_ascending_pairs (keys_of tiles))
  pub filled : All HoldsPair tiles
  pub few : length tiles ≤ 2 ^ 57

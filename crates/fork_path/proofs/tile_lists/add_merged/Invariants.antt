use Rattle.fork_path.proofs.TileMerges.{TileMerging}
use Rattle.fork_path.proofs.tile_lists.add_merged.Given as goal

abbrev pub invariant-loop-tile : goal.invariant-loop-tile
invariant-loop-tile l = TileMerging l.fn.tiles.items l.own l.others l.tiles.items l.rest l.tile-index

use Rattle.std.proofs.Common.{refl}
use Rattle.fork_path.proofs.TileBits.{one-holds}
use Rattle.fork_path.proofs.tiles.Tile.of.Goals as goal

pub returns : goal.returns
returns c = one-holds _ c.args.fork c.args.branch c.place_of_bit.result refl refl c.place_of_bit.ensures.place refl

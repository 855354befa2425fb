use Rattle.fork_path.proofs.TileBits.{joined-holds}
use Rattle.fork_path.proofs.tiles.Tile.joined.Goals as goal

pub returns-clause-pairs : goal.returns-clause-pairs
returns-clause-pairs c = joined-holds c.args.self c.args.other c.requires

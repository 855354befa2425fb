use Rattle.fork_path.proofs.TileBits.{cleared-holds}
use Rattle.fork_path.proofs.tiles.Tile.cleared.Goals as goal

pub returns-clause-pairs : goal.returns-clause-pairs
returns-clause-pairs c = cleared-holds c.args.self

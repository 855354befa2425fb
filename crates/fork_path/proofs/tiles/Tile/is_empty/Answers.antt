use Rattle.std.proofs.Common.{◌<◌, ◌^◌, rules}
use Rattle.fork_path.proofs.TileBits.{some_bit-holds}
use Rattle.fork_path.proofs.tiles.Tile.is_empty.Goals as goal

pub returns-clause-some : goal.returns-clause-some
returns-clause-some c = λ f. let fits : c.args.self.bits < 2 ^ 64 = search rules in some_bit-holds c.args.self fits f

use Rattle.std.proofs.Common.{ap}
use Rattle.fork_path.proofs.TilePaths.{seen-ascending}
use Rattle.fork_path.proofs.ForkPath.len.Goals as goal

pub returns-clause-ascending : goal.returns-clause-ascending
returns-clause-ascending c = seen-ascending c.self.inside.tiles.items c.args.self.now.pairs (ap (λ v. v.pairs) c.self.view_is)

use Rattle.fork_path.proofs.TileViews.{no-pairs_of}
use Rattle.fork_path.proofs.ForkPath.new.Goals as goal

pub returns : goal.returns
returns c = no-pairs_of c.new.result.items c.new.ensures.items

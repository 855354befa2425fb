use Rattle.plain_dag.specs.Forks.{leaves}
use Rattle.fork_points.proofs.Forks.{few-leaves}
use Rattle.fork_points.proofs.leaf_page.Goals as goal

pub returns : goal.returns
returns c = λ rs ks stands. c.page_of.ensures (leaves rs) (c.leaf_slots.ensures.leaves rs ks stands) (few-leaves c.args.dag.now rs ks stands)

use Rattle.std.proofs.Common.{arith}
use Rattle.state_dag.specs.Table.{id_at}
use Rattle.branch_region.proofs.Named.{named-length}
use Rattle.fork_points.proofs.page_of.Goals as goal

pub returns : goal.returns
returns c = λ xs are few.
    let len = named-length (id_at c.args.dag.now) c.args.slots.now xs are in
    let least = c.min.ensures in
    (omega arith, c.in_ok-first_of.ensures xs are)

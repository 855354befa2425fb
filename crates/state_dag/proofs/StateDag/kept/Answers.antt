use Rattle.std.proofs.Common.{length, ap, arith}
use Rattle.state_dag.specs.Table.{Table}
use Rattle.state_dag.proofs.Calls.{entries-kept}
use Rattle.state_dag.proofs.Memory.{entries-long}
use Rattle.state_dag.proofs.StateDag.kept.Goals as goal

pub returns : goal.returns
returns c = λ rs ks stands.
    let all = entries-kept c.args.self.now rs ks stands in
    let seen = ap (λ (t : Table). length t.entries) c.self.view_is in
    let long = entries-long c.self.inside c.self.invariant in
    omega arith

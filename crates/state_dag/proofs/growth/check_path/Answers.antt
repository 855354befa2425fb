use Rattle.std.proofs.Common.{◌∙◌, refl, arith}
use Rattle.state_dag.proofs.growth.check_path.Goals as goal

pub returns-then-pairs-limits : goal.returns-then-pairs-limits
returns-then-pairs-limits c =
    let same = c.in_ok-pairs.ensures.is ∙ c.len.ensures.count in
    let exceeds = c.if-pairs-limits.true in
    (refl, same, omega arith)

pub returns : goal.returns
returns c =
    let same = c.in_ok-pairs.ensures.is ∙ c.len.ensures.count in
    let fits = c.if-pairs-limits.false in
    omega arith

use Rattle.std.proofs.Common.{◌≤◌, ◌<◌, ◌^◌, sym, subst, arith}
use Rattle.state_dag.proofs.Standing.{slot-is_kept}
use Rattle.site_checkpoint.specs.Ends.{floor_told}
use Rattle.site_checkpoint.proofs.Ending.{kept-is-floor}
use Rattle.site_checkpoint.proofs.ends.known_floor.Goals as goal

pub returns-in-Some-clause-fits : goal.returns-in-Some-clause-fits
returns-in-Some-clause-fits c = λ t stands.
    let f = c.args.floor in
    let few = subst (λ n. f.stated ≤ n) (c.count.ensures.count t.dag t.collected stands) c.if-stated-count.false in
    let kept = slot-is_kept c.args.dag.now t.dag t.collected stands c.in-Some.slot f.state c.in-Some.ensures.found in
    let small : f.number < 2 ^ 32 = omega (arith, c.well_formed.1.1.0) in
    sym (kept-is-floor t c.args.site (floor_told f) kept few small)

use Rattle.std.proofs.Common.{length, [], sym, subst}
use Rattle.branch_region.specs.Walks.{waits_at, IsWalk}
use Rattle.branch_region.proofs.Told.{named-are_kept}
use Rattle.branch_region.proofs.Steps.{begin}
use Rattle.branch_region.proofs.walks.Walk.new.Goals as goal

pub returns-clause-walk : goal.returns-clause-walk
returns-clause-walk c = λ rs ks stands xs are.
    let table = c.args.dag.now in
    let f = waits_at c.in_ok-all_waiting.field-0 in
    let began = begin table rs ks stands xs (named-are_kept table rs ks stands c.args.states.now xs are) f
    (c.in_ok-all_waiting.ensures.waiting rs ks stands xs are) in (
      length rs,
      subst (λ ss. IsWalk table rs ks xs 0 (length rs) f ss c.new-2.result.items) (sym c.new.ensures.items)
          (subst (λ ss. IsWalk table rs ks xs 0 (length rs) f [] ss) (sym c.new-2.ensures.items) began),
    )

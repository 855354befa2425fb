use Rattle.std.proofs.Common.{take, sym, subst}
use Rattle.branch_region.specs.Walks.{waits_at, HasThese}
use Rattle.branch_region.proofs.Named.{take-got}
use Rattle.branch_region.proofs.Waiting.{these-next}
use Rattle.branch_region.proofs.walks.put_parents.Goals as goal

pub loop-parent-preserved : goal.loop-parent-preserved
loop-parent-preserved c = record {
  slots = c.in_ok-put-in-Some.ensures.slots c.loop-parent.invariant.slots;
  have = λ rs ks stands.
      let table = c.args.dag.now in
      let ps = c.parents-parent-items.result.now in
      let i = c.loop-parent.parent-index in
      subst (λ qs. HasThese table rs ks qs (waits_at c.args.waiting.now) (waits_at c.put.new.waiting))
      (sym (take-got ps i (record { site = 0; sequence = 0 }) c.loop-parent-test.true))
      (these-next table rs ks stands (waits_at c.loop-parent.waiting) (waits_at c.put.new.waiting) c.in-Some.above _ c.in-Some.ensures.found
      c.in_ok-put-in-Some.ensures.put (take i ps) (waits_at c.args.waiting.now) (c.loop-parent.invariant.have rs ks stands));
}

use Rattle.std.proofs.Common.{◌≡◌, ◌+◌, ◌++◌, ◌∙◌, length, drop, subst, sym}
use Rattle.frame_cut.specs.Frames.{frame}
use Rattle.frame_cut.specs.Cuts.{Leaves}
use Rattle.hub.proofs.Serving.{serves_body, fewer}
use Rattle.hub.proofs.answers.answer_held.Goals as goal

pub loop-cutter-smaller : goal.loop-cutter-smaller
loop-cutter-smaller g c =
    let left : c.next.follows.lender-at-none ≡ drop (4 + length c.in-Frame.body.now) c.loop-cutter.cutter =
    subst (λ r. Leaves c.loop-cutter.cutter r c.next.follows.lender-at-none) c.in-Frame.is c.next.follows.holds-at-none in
    fewer c.loop-cutter.cutter c.next.follows.lender-at-none c.in-Frame.body.now left c.in-Frame.ensures.cut.1

pub loop-cutter-preserved : goal.loop-cutter-preserved
loop-cutter-preserved g c =
    let left : c.next.follows.lender-at-none ≡ drop (4 + length c.in-Frame.body.now) c.loop-cutter.cutter =
    subst (λ r. Leaves c.loop-cutter.cutter r c.next.follows.lender-at-none) c.in-Frame.is c.next.follows.holds-at-none in
    record {
      served = serves_body (g.M.Settling.through c.args.door) (g.M.Settling.stands c.args.machine.now) (g.M.Settling.stands c.loop-cutter.machine)
          (g.M.Settling.stands c.answer_body.new.machine) c.args.actor
          c.args.cutter.now c.loop-cutter.cutter c.next.follows.lender-at-none c.args.waiting.now c.loop-cutter.waiting c.answer_body.new.waiting
          c.in-Frame.body.now c.args.tally.now c.loop-cutter.tally c.answer_body.new.tally
          c.loop-cutter.invariant.served c.in-Frame.ensures.cut.0
          (subst (λ r. c.loop-cutter.cutter ≡ frame c.in-Frame.body.now ++ r) (sym left) c.in-Frame.ensures.cut.1) c.answer_body.ensures.answered;
      counts = c.answer_body.ensures.counts;
      opening = c.answer_body.ensures.opening ∙ c.loop-cutter.invariant.opening;
    }

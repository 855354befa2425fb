use Rattle.std.proofs.Common.{Ok, ap, ◌∙◌}
use Rattle.site_log.proofs.drafts.Draft.put_all.Goals as goal

pub loop-number-preserved : goal.loop-number-preserved
loop-number-preserved g c = λ from has.
    let mid = c.make_way.ensures.has (c.in-Ok-true.is ∙ ap (λ f. Ok f) c.in-Ok-true.field-0-test) from (c.loop-number.invariant from has) in
    (mid.0, record { text = mid.1.text; end = mid.1.end; taken = mid.1.taken; stood = mid.1.stood })

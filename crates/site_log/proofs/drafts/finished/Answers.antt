use Rattle.std.proofs.Common.{Ok, ap, ◌∙◌}
use Rattle.site_log.proofs.Leading.{RestLaws}
use Rattle.site_log.proofs.Drafting.{is_shorter}
use Rattle.site_log.proofs.drafts.finished.Goals as goal

pub returns-then-rests_as : goal.returns-then-rests_as
returns-then-rests_as g c =
    let M = g.M.Resting in
    let laws : RestLaws M = record {
      opens = g.met.M.Resting.opens;
      rests = g.met.M.Resting.rests;
      goes_on = g.met.M.Resting.goes_on;
      lasts = g.met.M.Resting.lasts;
      rest_alike = g.met.M.Resting.rest_alike;
    } in
    is_shorter M c.args.front.now laws c.args.guards c.args.machine.now c.put_guards.new.self
    (c.put_guards.ensures (c.in-Ok-true-put_guards.is ∙ ap (λ f. Ok f) c.in-Ok-true-put_guards.field-0-test) (M.opening c.args.machine.now)
    (c.put_all.ensures.has (c.in-Ok-true.is ∙ ap (λ f. Ok f) c.in-Ok-true.field-0-test) (M.opening c.args.machine.now) c.requires))
    (c.rests_as.ensures c.if-rests_as.true)

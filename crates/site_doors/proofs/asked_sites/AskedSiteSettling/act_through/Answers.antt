use Rattle.std.proofs.Common.{◌≡◌, [], sym, ◌∙◌}
use Rattle.tardis_base.specs.Plain.{Event}
use Rattle.site_lives.specs.Acquainted.{Acquainted}
use Rattle.rest_site.specs.Ruled.{ruled_machine}
use Rattle.rest_site.specs.Stands.{AcquaintedStands}
use Rattle.hub.specs.Doors.{seen_through}
use Rattle.site_doors.specs.Rules.{site_doors, is_let_in, is_sure_at}
use Rattle.site_doors.proofs.Seen.{on_ok, in-reply, in-step, in-sure, out-reply, out-step, unsure}
use Rattle.site_doors.proofs.asked_sites.AskedSiteSettling.act_through.Goals as goal

pub returns-then-lets_in-clause-reply : goal.returns-then-lets_in-clause-reply
returns-then-lets_in-clause-reply c =
    let e : Event = (c.args.actor, c.args.request.now) in
    let old = c.args.self.now.site in
    let out = c.act.new.out in
    on_ok c.act.result
    ((s : Acquainted) → AcquaintedStands old s → out ≡ ruled_machine.reply s e)
    ((s : Acquainted) → AcquaintedStands old s → out ≡ (seen_through ruled_machine site_doors c.args.door).reply s e)
    c.act.ensures.reply (in-reply ruled_machine site_doors AcquaintedStands c.args.door e old old out (λ a stands. sym (c.lets_in.ensures.let_in a stands) ∙ c.if-lets_in.true))

pub returns-then-lets_in-clause-step : goal.returns-then-lets_in-clause-step
returns-then-lets_in-clause-step c =
    let e : Event = (c.args.actor, c.args.request.now) in
    let old = c.args.self.now.site in
    let new = c.act.new.self in
    on_ok c.act.result
    ((s : Acquainted) → AcquaintedStands old s → AcquaintedStands new (ruled_machine.step s e))
    ((s : Acquainted) → AcquaintedStands old s → AcquaintedStands new ((seen_through ruled_machine site_doors c.args.door).step s e))
    c.act.ensures.step (in-step ruled_machine site_doors AcquaintedStands c.args.door e old new [] (λ a stands. sym (c.lets_in.ensures.let_in a stands) ∙ c.if-lets_in.true))

pub returns-then-lets_in-clause-sure : goal.returns-then-lets_in-clause-sure
returns-then-lets_in-clause-sure c = λ sure.
    let e : Event = (c.args.actor, c.args.request.now) in
    let old = c.args.self.now.site in
    c.act.ensures.sure
    (in-sure ruled_machine site_doors AcquaintedStands c.args.door e old old []
    (unsure (is_let_in c.args.door c.args.request.now) (is_sure_at c.args.door c.args.request.now) (c.lets_in.ensures.coded c.if-lets_in.true)) sure)

pub returns-else-lets_in-clause-reply : goal.returns-else-lets_in-clause-reply
returns-else-lets_in-clause-reply c =
    let e : Event = (c.args.actor, c.args.request.now) in
    let old = c.args.self.now.site in
    let out = c.answer_at.new.out in
    on_ok c.answer_at.result
    ((s : Acquainted) → AcquaintedStands old s → out ≡ site_doors.answer c.args.door s e)
    ((s : Acquainted) → AcquaintedStands old s → out ≡ (seen_through ruled_machine site_doors c.args.door).reply s e)
    c.answer_at.ensures.told (out-reply ruled_machine site_doors AcquaintedStands c.args.door e old old out (λ a stands. sym (c.lets_in.ensures.let_in a stands) ∙ c.if-lets_in.false))

pub returns-else-lets_in-clause-step : goal.returns-else-lets_in-clause-step
returns-else-lets_in-clause-step c =
    let e : Event = (c.args.actor, c.args.request.now) in
    let old = c.args.self.now.site in
    on_ok c.answer_at.result
    ((s : Acquainted) → AcquaintedStands old s → c.answer_at.new.out ≡ site_doors.answer c.args.door s e)
    ((s : Acquainted) → AcquaintedStands old s → AcquaintedStands old ((seen_through ruled_machine site_doors c.args.door).step s e))
    c.answer_at.ensures.told (λ f. out-step ruled_machine site_doors AcquaintedStands c.args.door e old old [] (λ a stands. sym (c.lets_in.ensures.let_in a stands) ∙ c.if-lets_in.false))

pub returns-else-lets_in-clause-sure : goal.returns-else-lets_in-clause-sure
returns-else-lets_in-clause-sure c = λ sure. c.answer_at.ensures.sure sure

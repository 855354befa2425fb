use Rattle.std.proofs.Common.{◌≡◌, List, [], sym, subst, ◌∙◌}
use Rattle.tardis_base.specs.Plain.{Event}
use Rattle.site_lives.specs.Acquainted.{Acquainted}
use Rattle.rest_site.specs.Stands.{AcquaintedStands}
use Rattle.hub.specs.Doors.{seen_through}
use Rattle.site_log.specs.Kept.{Kept, logged}
use Rattle.site_log.specs.Images.{Mark}
use Rattle.site_log.specs.Stood.{Stands}
use Rattle.site_doors.specs.Rules.{site_doors, is_let_in, is_sure_at}
use Rattle.site_doors.specs.Kept.{resting, kept_doors}
use Rattle.site_doors.proofs.Seen.{on_ok, in-reply, in-step, in-sure, out-reply, out-step, unsure}
use Rattle.site_doors.proofs.asked_logs.AskedLogSettling.act_through.Goals as goal

pub returns-then-lets_in-clause-reply : goal.returns-then-lets_in-clause-reply
returns-then-lets_in-clause-reply g c =
    let e : Event = (c.args.actor, c.args.request.now) in
    let old = c.args.self.now.log in
    let out = c.act.new.out in
    on_ok c.act.result
    ((kept : Kept Acquainted) → ((marks : List Mark) × Stands resting g.K.Disk old kept marks) → out ≡ (logged resting).reply kept e)
    ((kept : Kept Acquainted) → ((marks : List Mark) × Stands resting g.K.Disk old kept marks) → out ≡ (seen_through (logged resting) kept_doors c.args.door).reply kept e)
    c.act.ensures.reply
    (in-reply (logged resting) kept_doors (λ l kept. (marks : List Mark) × Stands resting g.K.Disk l kept marks) c.args.door e old old out
    (λ kept s. sym (c.lets_in.ensures.let_in kept.state (subst (λ held. AcquaintedStands held kept.state) (sym c.machine-site.ensures) s.1.stood)) ∙ c.if-lets_in.true))

pub returns-then-lets_in-clause-step : goal.returns-then-lets_in-clause-step
returns-then-lets_in-clause-step g c =
    let e : Event = (c.args.actor, c.args.request.now) in
    let old = c.args.self.now.log in
    let new = c.act.new.self in
    on_ok c.act.result
    ((kept : Kept Acquainted) → ((marks : List Mark) × Stands resting g.K.Disk old kept marks)
    → (marks : List Mark) × Stands resting g.K.Disk new ((logged resting).step kept e) marks)
    ((kept : Kept Acquainted) → ((marks : List Mark) × Stands resting g.K.Disk old kept marks)
    → (marks : List Mark) × Stands resting g.K.Disk new ((seen_through (logged resting) kept_doors c.args.door).step kept e) marks)
    c.act.ensures.step
    (in-step (logged resting) kept_doors (λ l kept. (marks : List Mark) × Stands resting g.K.Disk l kept marks) c.args.door e old new []
    (λ kept s. sym (c.lets_in.ensures.let_in kept.state (subst (λ held. AcquaintedStands held kept.state) (sym c.machine-site.ensures) s.1.stood)) ∙ c.if-lets_in.true))

pub returns-then-lets_in-clause-sure : goal.returns-then-lets_in-clause-sure
returns-then-lets_in-clause-sure g c = λ sure.
    let e : Event = (c.args.actor, c.args.request.now) in
    let old = c.args.self.now.log in
    c.act.ensures.sure
    (in-sure (logged resting) kept_doors (λ l kept. (marks : List Mark) × Stands resting g.K.Disk l kept marks) c.args.door e old old []
    (unsure (is_let_in c.args.door c.args.request.now) (is_sure_at c.args.door c.args.request.now) (c.lets_in.ensures.coded c.if-lets_in.true)) sure)

pub returns-else-lets_in-clause-reply : goal.returns-else-lets_in-clause-reply
returns-else-lets_in-clause-reply g c =
    let e : Event = (c.args.actor, c.args.request.now) in
    let old = c.args.self.now.log in
    let out = c.answer_at.new.out in
    on_ok c.answer_at.result
    ((a : Acquainted) → AcquaintedStands c.machine-site.result.now a → out ≡ site_doors.answer c.args.door a e)
    ((kept : Kept Acquainted) → ((marks : List Mark) × Stands resting g.K.Disk old kept marks) → out ≡ (seen_through (logged resting) kept_doors c.args.door).reply kept e)
    c.answer_at.ensures.told
    (λ f. out-reply (logged resting) kept_doors (λ l kept. (marks : List Mark) × Stands resting g.K.Disk l kept marks) c.args.door e old old out
    (λ kept s. sym (c.lets_in.ensures.let_in kept.state (subst (λ held. AcquaintedStands held kept.state) (sym c.machine-site.ensures) s.1.stood)) ∙ c.if-lets_in.false)
    (λ kept s. f kept.state (subst (λ held. AcquaintedStands held kept.state) (sym c.machine-site.ensures) s.1.stood)))

pub returns-else-lets_in-clause-step : goal.returns-else-lets_in-clause-step
returns-else-lets_in-clause-step g c =
    let e : Event = (c.args.actor, c.args.request.now) in
    let old = c.args.self.now.log in
    on_ok c.answer_at.result
    ((a : Acquainted) → AcquaintedStands c.machine-site.result.now a → c.answer_at.new.out ≡ site_doors.answer c.args.door a e)
    ((kept : Kept Acquainted) → ((marks : List Mark) × Stands resting g.K.Disk old kept marks)
    → (marks : List Mark) × Stands resting g.K.Disk old ((seen_through (logged resting) kept_doors c.args.door).step kept e) marks)
    c.answer_at.ensures.told
    (λ f. out-step (logged resting) kept_doors (λ l kept. (marks : List Mark) × Stands resting g.K.Disk l kept marks) c.args.door e old old []
    (λ kept s. sym (c.lets_in.ensures.let_in kept.state (subst (λ held. AcquaintedStands held kept.state) (sym c.machine-site.ensures) s.1.stood)) ∙ c.if-lets_in.false))

pub returns-else-lets_in-clause-sure : goal.returns-else-lets_in-clause-sure
returns-else-lets_in-clause-sure g c = λ sure. c.answer_at.ensures.sure sure

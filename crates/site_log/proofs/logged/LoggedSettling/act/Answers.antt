use Rattle.std.proofs.Common.{◌≡◌, List}
use Rattle.tardis_base.specs.Plain.{Event}
use Rattle.site_log.specs.Kept.{Kept, logged}
use Rattle.site_log.specs.Images.{Mark}
use Rattle.site_log.specs.Stood.{Stands}
use Rattle.site_log.proofs.Appending.{on_ok, on_err}
use Rattle.site_log.proofs.logged.LoggedSettling.act.Goals as goal

pub returns-clause-reply : goal.returns-clause-reply
returns-clause-reply g c =
    let M = g.M.Resting in
    let K = g.K.Disk in
    let e : Event = (c.args.actor, c.args.request.now) in
    on_ok c.answer.result
    ((kept : Kept M.Plain) (marks : List Mark) → Stands M K c.args.self.now kept marks → c.answer.new.out ≡ M.plain.reply kept.state e)
    ((kept : Kept M.Plain) → ((marks : List Mark) × Stands M K c.args.self.now kept marks) → c.answer.new.out ≡ M.plain.reply kept.state e)
    c.answer.ensures.reply (λ f kept s. f kept s.0 s.1)

pub returns-clause-step : goal.returns-clause-step
returns-clause-step g c =
    let M = g.M.Resting in
    let K = g.K.Disk in
    let e : Event = (c.args.actor, c.args.request.now) in
    on_ok c.answer.result
    ((kept : Kept M.Plain) (marks : List Mark) → Stands M K c.args.self.now kept marks → Stands M K c.answer.new.self ((logged M).step kept e) marks)
    ((kept : Kept M.Plain) → ((marks : List Mark) × Stands M K c.args.self.now kept marks)
    → (marks : List Mark) × Stands M K c.answer.new.self ((logged M).step kept e) marks)
    c.answer.ensures.step (λ f kept s. (s.0, f kept s.0 s.1))

pub returns-clause-same : goal.returns-clause-same
returns-clause-same g c =
    let M = g.M.Resting in
    let K = g.K.Disk in
    on_err c.answer.result
    ((kept : Kept M.Plain) (marks : List Mark) → Stands M K c.args.self.now kept marks → Stands M K c.answer.new.self kept marks)
    ((kept : Kept M.Plain) → ((marks : List Mark) × Stands M K c.args.self.now kept marks)
    → (marks : List Mark) × Stands M K c.answer.new.self kept marks)
    c.answer.ensures.same (λ f kept s. (s.0, f kept s.0 s.1))

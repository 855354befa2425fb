use Rattle.std.proofs.Common.{List, ◌∷◌, length}
use Rattle.site_log.specs.Kept.{Kept, with_settle}
use Rattle.site_log.specs.Images.{Mark}
use Rattle.site_log.specs.Stood.{Stands}
use Rattle.site_log.proofs.Appending.{on_ok, on_err}
use Rattle.site_log.proofs.logged.LoggedSettling.settle.Goals as goal

pub returns-clause-settled : goal.returns-clause-settled
returns-clause-settled g c =
    let M = g.M.Resting in
    let K = g.K.Disk in
    on_ok c.settle_now.result
    ((kept : Kept M.Plain) (marks : List Mark) → Stands M K c.args.self.now kept marks
    → Stands M K c.settle_now.new.self (with_settle kept)
    (record { moment = K.moment c.settle_now.new.self.file.disk; count = length kept.things } ∷ marks))
    ((kept : Kept M.Plain) → ((marks : List Mark) × Stands M K c.args.self.now kept marks)
    → (marks : List Mark) × Stands M K c.settle_now.new.self (with_settle kept) marks)
    c.settle_now.ensures.settled
    (λ f kept s. (record { moment = K.moment c.settle_now.new.self.file.disk; count = length kept.things } ∷ s.0, f kept s.0 s.1))

pub returns-clause-same : goal.returns-clause-same
returns-clause-same g c =
    let M = g.M.Resting in
    let K = g.K.Disk in
    on_err c.settle_now.result
    ((kept : Kept M.Plain) (marks : List Mark) → Stands M K c.args.self.now kept marks → Stands M K c.settle_now.new.self kept marks)
    ((kept : Kept M.Plain) → ((marks : List Mark) × Stands M K c.args.self.now kept marks)
    → (marks : List Mark) × Stands M K c.settle_now.new.self kept marks)
    c.settle_now.ensures.same (λ f kept s. (s.0, f kept s.0 s.1))

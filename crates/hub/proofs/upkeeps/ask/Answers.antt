use Rattle.std.proofs.Common.{◌∙◌, ◌∷◌, [], ap, subst}
use Rattle.hub.specs.Upkeeps.{rule_of, said}
use Rattle.hub.specs.Telling.{Tells, own_replies}
use Rattle.hub.proofs.Serving.{asked_ok, asked_err}
use Rattle.hub.proofs.upkeeps.ask.Goals as goal

pub returns-in-Ok-clause-asked : goal.returns-in-Ok-clause-asked
returns-in-Ok-clause-asked g c = λ s f.
    let same = c.bytes.ensures.same ∙ c.in-Ok.ensures.reply s f in
    asked_ok g.M.Settling.plain (g.M.Settling.stands c.act.new.self) c.args.request.now (rule_of c.args.upkeep) c.told.result
    (g.P.Ports.seen c.args.ports.now) (g.P.Ports.seen c.told.new.ports) s (c.in-Ok.ensures.step s f)
    (c.told.ensures.says ∙ ap (λ r. said (rule_of c.args.upkeep) (r ∷ [])) same)
    (subst (λ reply. Tells (g.P.Ports.seen c.args.ports.now) (g.P.Ports.seen c.told.new.ports) (own_replies (reply ∷ []))) same c.told.ensures.told)

pub returns-in-Err-clause-asked : goal.returns-in-Err-clause-asked
returns-in-Err-clause-asked g c = λ s f. asked_err g.M.Settling.plain (g.M.Settling.stands c.act.new.self) c.args.request.now (rule_of c.args.upkeep)
    c.told-in-Err.result (g.P.Ports.seen c.args.ports.now) (g.P.Ports.seen c.told-in-Err.new.ports) s
    c.in-Err.ensures.sure (c.in-Err.ensures.same s f) c.told-in-Err.ensures.says c.told-in-Err.ensures.told

use Rattle.std.proofs.Common.{sym, subst}
use Rattle.std.specs.Prelude.{OnOk}
use Rattle.site_lives.specs.Acquainted.{Acquainted}
use Rattle.rest_site.specs.Stands.{HeldSite, AcquaintedStands}
use Rattle.rest_site.specs.Ruled.{ruled_machine}
use Rattle.rest_site.proofs.machines.RestSiteResting.act_lasting.Goals as goal

pub returns-clause-step : goal.returns-clause-step
returns-clause-step c =
    subst (λ (h : HeldSite). OnOk c.answer_lasting-done.result ((a : Acquainted) → AcquaintedStands c.args.self.now a →
    AcquaintedStands h (ruled_machine.step a (c.args.actor, c.args.request.now)))) (sym c.note.ensures) c.answer_lasting-done.ensures.step

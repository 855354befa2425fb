use Rattle.std.proofs.Common.{sym, subst}
use Rattle.session_core.specs.Stands.{CoreStands}
use Rattle.session_core.proofs.JoiningInOne.{begin-refused, begin-allowed}
use Rattle.session_core.proofs.Standing.{open-session, none-kept}
use Rattle.session_core.proofs.SiteCore.begin_refusal.Goals as goal

pub returns-in-Ok : goal.returns-in-Ok
returns-in-Ok c = λ site (stands, sound).
    let core = c.self.inside.parts in
    let here = subst (λ v. CoreStands v site) (sym c.self.view_is) stands in
    let s = open-session core site here c.args.actor c.in-Ok.ensures.open in
    begin-allowed site c.args.actor s.value s.is (none-kept core site here c.args.actor c.in-Ok.ensures.none)

pub returns-in-Err : goal.returns-in-Err
returns-in-Err c = λ site (stands, sound).
    begin-refused site c.args.actor c.in-Err.refusal (c.in-Err.ensures.refused site (subst (λ v. CoreStands v site) (sym c.self.view_is) stands))

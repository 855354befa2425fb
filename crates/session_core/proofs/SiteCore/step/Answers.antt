use Rattle.std.proofs.Common.{◌≡◌, subst}
use Rattle.plain_site.specs.Site.{Site}
use Rattle.plain_site.specs.Step.{step}
use Rattle.session_core.specs.Gives.{Gives}
use Rattle.session_core.specs.Machine.{SiteStands, opened_with}
use Rattle.session_core.proofs.Telling.{small, told-sound, still-stands, told-told, told-sure, gave-opening}
use Rattle.session_core.proofs.SiteCore.step.Goals as goal

pub invariant_of-self : goal.invariant_of-self
invariant_of-self c =
    still-stands c.self.inside.parts c.serve.new.self c.args.actor c.args.request.now (small c.args.actor c.ranges.actor.fits) c.requires c.serve.result
    c.serve.ensures.given c.self.invariant

pub returns-clause-given : goal.returns-clause-given
returns-clause-given c =
    subst (λ old. (site : Site) → SiteStands old site → Gives (SiteStands c.serve.new.self) (step site c.args.actor c.args.request.now) site c.told.result)
    c.self.view_is
    (told-sound c.self.inside.parts c.serve.new.self c.args.actor c.args.request.now (small c.args.actor c.ranges.actor.fits) c.requires c.serve.result
    c.told.result c.told.ensures c.serve.ensures.given)

pub returns-clause-told : goal.returns-clause-told
returns-clause-told c =
    told-told c.self.inside.parts c.serve.new.self c.args.actor c.args.request.now (small c.args.actor c.ranges.actor.fits) c.requires c.serve.result
    c.told.result c.told.ensures c.serve.ensures.given c.self.invariant

pub returns-clause-sure : goal.returns-clause-sure
returns-clause-sure c = λ sure. told-sure c.serve.result c.told.result c.told.ensures (c.serve.ensures.sure sure)

pub returns-clause-opening : goal.returns-clause-opening
returns-clause-opening c =
    subst (λ old. opened_with c.serve.new.self ≡ opened_with old) c.self.view_is
    (gave-opening c.self.inside.parts c.serve.new.self c.args.actor c.args.request.now (small c.args.actor c.ranges.actor.fits) c.requires c.serve.result
    c.serve.ensures.given c.self.invariant)

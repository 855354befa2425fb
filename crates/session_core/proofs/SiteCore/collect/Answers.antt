use Rattle.std.proofs.Common.{◌≡◌, refl, subst}
use Rattle.session_core.specs.Machine.{opened_with}
use Rattle.session_core.specs.Rests.{Collects}
use Rattle.session_core.proofs.Settings.{opened-same}
use Rattle.session_core.proofs.SiteCore.collect.Goals as goal

pub invariant_of-self : goal.invariant_of-self
invariant_of-self c =
    let before = c.self.invariant in
    let now = (c.collect.ensures before.site (before.stands, before.sound)).0 in
    record { site = _; stands = now.0; sound = now.1 }

pub returns-clause-collected : goal.returns-clause-collected
returns-clause-collected c = subst (λ old. Collects old c.collect.new.self c.args.count c.collect.result) c.self.view_is c.collect.ensures

pub returns-clause-opening : goal.returns-clause-opening
returns-clause-opening c =
    let before = c.self.invariant in
    let now = (c.collect.ensures before.site (before.stands, before.sound)).0 in
    subst (λ old. opened_with c.collect.new.self ≡ opened_with old) c.self.view_is
    (opened-same c.self.inside.parts c.collect.new.self before.site _ before.stands now.0 (refl, refl))

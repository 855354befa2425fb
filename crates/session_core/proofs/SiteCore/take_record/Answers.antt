use Rattle.std.proofs.Common.{◌≡◌, subst}
use Rattle.tardis_base.specs.declared.records.Item.TheVariants.{State}
use Rattle.plain_site.specs.Rest.{News}
use Rattle.session_core.specs.Machine.{opened_with}
use Rattle.session_core.specs.Rests.{TakesBack}
use Rattle.session_core.proofs.Resting.{taken-stands, taken-opening}
use Rattle.session_core.proofs.SiteCore.take_record.Goals as goal

pub invariant_of-self : goal.invariant_of-self
invariant_of-self c =
    taken-stands c.self.inside.parts c.take_record.new.self (News (State c.args.rec)) c.take_record.result c.take_record.ensures c.self.invariant

pub returns-clause-taken : goal.returns-clause-taken
returns-clause-taken c =
    subst (λ old. TakesBack old c.take_record.new.self (News (State c.args.rec)) c.take_record.result) c.self.view_is c.take_record.ensures

pub returns-clause-opening : goal.returns-clause-opening
returns-clause-opening c =
    subst (λ old. opened_with c.take_record.new.self ≡ opened_with old) c.self.view_is
    (taken-opening c.self.inside.parts c.take_record.new.self (News (State c.args.rec)) c.take_record.result c.take_record.ensures c.self.invariant)

use Rattle.std.proofs.Common.{◌≡◌, Ok, sym, subst}
use Rattle.tardis_base.specs.declared.records.Item.TheVariants.{Promise}
use Rattle.plain_site.specs.Rest.{News}
use Rattle.session_core.specs.Machine.{opened_with}
use Rattle.session_core.specs.Rests.{TakesBack, KeepsSound}
use Rattle.session_core.proofs.Resting.{taken-stands, taken-opening}
use Rattle.session_core.proofs.SiteCore.take_promise.Goals as goal

pub take_promise-requires-clause-sound : goal.take_promise-requires-clause-sound
take_promise-requires-clause-sound c = subst (λ old. KeepsSound old (News (Promise c.args.promise.now))) (sym c.self.view_is) c.requires.sound

pub invariant_of-self : goal.invariant_of-self
invariant_of-self c =
    taken-stands c.self.inside.parts c.take_promise.new.self (News (Promise c.args.promise.now)) (Ok c.take_promise.result) c.take_promise.ensures
    c.self.invariant

pub returns-clause-taken : goal.returns-clause-taken
returns-clause-taken c =
    subst (λ old. TakesBack old c.take_promise.new.self (News (Promise c.args.promise.now)) (Ok c.take_promise.result)) c.self.view_is
    c.take_promise.ensures

pub returns-clause-opening : goal.returns-clause-opening
returns-clause-opening c =
    subst (λ old. opened_with c.take_promise.new.self ≡ opened_with old) c.self.view_is
    (taken-opening c.self.inside.parts c.take_promise.new.self (News (Promise c.args.promise.now)) (Ok c.take_promise.result) c.take_promise.ensures
    c.self.invariant)

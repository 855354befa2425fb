use Rattle.std.proofs.Common.{sym, subst}
use Rattle.session_core.specs.Held.{seen}
use Rattle.session_core.specs.Stands.{CoreStands}
use Rattle.session_core.proofs.Tidying.{core-together, tidy-gives, tidy-held}
use Rattle.session_core.proofs.Parts.collect.Goals as goal

pub tidy-requires : goal.tidy-requires
tidy-requires c =
    let site = c.requires.site in
    let here = subst (λ v. CoreStands v site) (sym c.self.view_is) c.requires.stands in
    record { records = site.dag; collected = site.collected; together = core-together (seen c.self.inside) site here c.requires.sound }

pub invariant_of-self : goal.invariant_of-self
invariant_of-self c =
    let site = c.requires.site in
    let sound = c.requires.sound in
    let here = subst (λ v. CoreStands v site) (sym c.self.view_is) c.requires.stands in
    let told = c.tidy.ensures in
    let together = core-together (seen c.self.inside) site here sound in
    tidy-held c.self.inside c.tidy.new.store c.tidy.new.book site c.args.count here sound (told.names site.dag site.collected together)
    c.self.invariant told.numbers told.promises told.slots

pub returns : goal.returns
returns c = λ site both.
    let sound = both.1 in
    let here = subst (λ v. CoreStands v site) (sym c.self.view_is) both.0 in
    let told = c.tidy.ensures in
    let together = core-together (seen c.self.inside) site here sound in
    tidy-gives (seen c.self.inside) c.tidy.new.store c.tidy.new.book site c.args.count here sound
    (told.names site.dag site.collected together) c.tidy.result told.numbers told.promises
    (told.tidied site.dag site.collected together) (told.count site.dag site.collected together)

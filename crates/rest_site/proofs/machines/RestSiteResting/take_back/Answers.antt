use Rattle.std.proofs.Common.{sym, subst, ◌∙◌}
use Rattle.rest_site.specs.Stands.{held_site, AcquaintedStands}
use Rattle.rest_site.proofs.Taken.{unquiet-refused}
use Rattle.rest_site.proofs.machines.RestSiteResting.take_back.Goals as goal

pub returns-then-not-is_quiet-clause-refused : goal.returns-then-not-is_quiet-clause-refused
returns-then-not-is_quiet-clause-refused c = λ e a b stands.
    unquiet-refused (held_site c.self.inside.core c.self.inside.lives c.self.inside.loading) (sym c.is_quiet.ensures ∙ c.if-not-is_quiet.true) a b
    c.args.bytes.now (subst (λ held. AcquaintedStands held a) (sym c.self.view_is) stands)

pub invariant_of-self : goal.invariant_of-self
invariant_of-self c = c.take_all.ensures.stands

pub returns-else-taken-clause-refused : goal.returns-else-taken-clause-refused
returns-else-taken-clause-refused c = λ e a b stands.
    c.in_ok-taken.ensures.refused e a b (subst (λ held. AcquaintedStands held a) (sym c.self.view_is) stands)

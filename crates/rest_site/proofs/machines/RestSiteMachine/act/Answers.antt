use Rattle.std.proofs.Common.{◌≡◌, [], ◌∷◌, sym, subst, ◌∙◌}
use Rattle.tardis_base.specs.Plain.{Event}
use Rattle.plain_site.specs.Site.{Site}
use Rattle.plain_site.specs.Step.{site_machine}
use Rattle.session_core.specs.Machine.{SiteStands}
use Rattle.join_rules.specs.declared.join_codes.TheConstants.{JOIN}
use Rattle.join_rules.specs.Joins.{asked_to_join}
use Rattle.join_rules.specs.Laws.{behind_join}
use Rattle.site_lives.specs.Acquainted.{Acquainted}
use Rattle.rest_site.specs.Stands.{HeldSite, held_site, AcquaintedStands}
use Rattle.rest_site.specs.Ruled.{ruled_machine}
use Rattle.rest_site.proofs.Ruled.{oldest-told, oldest-moves, join-told, join-moves, join-unsure, site-told, site-moves, site-sure}
use Rattle.rest_site.proofs.Loads.{some-site, some-goes-on}
use Rattle.rest_site.proofs.Seen.{on-ok, stands-after, stands-behind}
use Rattle.rest_site.proofs.machines.RestSiteMachine.act.Goals as goal

pub invariant_of-self : goal.invariant_of-self
invariant_of-self c =
    let held = c.self.inside in
    some-goes-on held.core c.join.new.core held.loading c.self.invariant
    (stands-after held.core c.join.new.core (λ s. behind_join s c.args.request.now) c.join.result (some-site held.core held.loading c.self.invariant)
    c.join.ensures.step c.join.ensures.same) c.join.ensures.opening

pub invariant_of-self-else-is_join : goal.invariant_of-self-else-is_join
invariant_of-self-else-is_join c =
    let held = c.self.inside in
    let event : Event = (c.args.actor, c.args.request.now) in
    some-goes-on held.core c.act.new.self held.loading c.self.invariant
    (stands-behind held.core c.act.new.self event c.act.result (some-site held.core held.loading c.self.invariant) c.act.ensures.step c.act.ensures.same)
    c.act.ensures.opening

pub returns-then-asks_oldest-clause-reply : goal.returns-then-asks_oldest-clause-reply
returns-then-asks_oldest-clause-reply c = λ a stands.
    let event : Event = (c.args.actor, c.args.request.now) in
    let held = held_site c.self.inside.core c.self.inside.lives c.self.inside.loading in
    let lives = sym c.is_of_lives.ensures ∙ c.if-is_of_lives.false in
    let oldest = sym c.asks_oldest.ensures ∙ c.if-asks_oldest.true in
    oldest-told held event lives oldest c.tell_oldest.new.out c.tell_oldest.ensures a (subst (λ (h : HeldSite). AcquaintedStands h a) (sym c.self.view_is) stands)

pub returns-then-asks_oldest-clause-step : goal.returns-then-asks_oldest-clause-step
returns-then-asks_oldest-clause-step c =
    oldest-moves c.args.self.now (c.args.actor, c.args.request.now) (sym c.is_of_lives.ensures ∙ c.if-is_of_lives.false)
    (sym c.asks_oldest.ensures ∙ c.if-asks_oldest.true)

pub returns-then-is_join-clause-reply : goal.returns-then-is_join-clause-reply
returns-then-is_join-clause-reply c =
    let event : Event = (c.args.actor, c.args.request.now) in
    let held = held_site c.self.inside.core c.self.inside.lives c.self.inside.loading in
    let lives = sym c.is_of_lives.ensures ∙ c.if-is_of_lives.false in
    let oldest = sym c.asks_oldest.ensures ∙ c.if-asks_oldest.false in
    let joins = sym c.is_join.ensures ∙ c.if-is_join.true in
    on-ok c.join.result ((s : Site) → SiteStands held.core s → c.join.new.out ≡ JOIN ∷ (asked_to_join s event.1).0 ∷ [])
    ((a : Acquainted) → AcquaintedStands c.args.self.now a → c.join.new.out ≡ ruled_machine.reply a event) c.join.ensures.reply
    (λ told a stands. join-told held c.join.new.core event lives oldest c.join.new.out joins told a (subst (λ (h : HeldSite). AcquaintedStands h a) (sym c.self.view_is) stands))

pub returns-then-is_join-clause-step : goal.returns-then-is_join-clause-step
returns-then-is_join-clause-step c =
    let event : Event = (c.args.actor, c.args.request.now) in
    let held = held_site c.self.inside.core c.self.inside.lives c.self.inside.loading in
    let lives = sym c.is_of_lives.ensures ∙ c.if-is_of_lives.false in
    let oldest = sym c.asks_oldest.ensures ∙ c.if-asks_oldest.false in
    let joins = sym c.is_join.ensures ∙ c.if-is_join.true in
    let new = c.join.new.core in
    on-ok c.join.result ((s : Site) → SiteStands held.core s → SiteStands new (behind_join s event.1))
    ((a : Acquainted) → AcquaintedStands c.args.self.now a → AcquaintedStands (held_site new held.lives held.loading) (ruled_machine.step a event)) c.join.ensures.step
    (λ moves a stands. join-moves held new event lives oldest joins moves c.join.ensures.opening a (subst (λ (h : HeldSite). AcquaintedStands h a) (sym c.self.view_is) stands))

pub returns-then-is_join-clause-sure : goal.returns-then-is_join-clause-sure
returns-then-is_join-clause-sure c = λ sure.
    absurd
    (join-unsure (c.args.actor, c.args.request.now) (sym c.is_of_lives.ensures ∙ c.if-is_of_lives.false) (sym c.asks_oldest.ensures ∙ c.if-asks_oldest.false)
    (sym c.is_join.ensures ∙ c.if-is_join.true) sure)

pub returns-else-is_join-clause-reply : goal.returns-else-is_join-clause-reply
returns-else-is_join-clause-reply c =
    let event : Event = (c.args.actor, c.args.request.now) in
    let held = held_site c.self.inside.core c.self.inside.lives c.self.inside.loading in
    let lives = sym c.is_of_lives.ensures ∙ c.if-is_of_lives.false in
    let oldest = sym c.asks_oldest.ensures ∙ c.if-asks_oldest.false in
    let joins = sym c.is_join.ensures ∙ c.if-is_join.false in
    on-ok c.act.result ((s : Site) → SiteStands held.core s → c.act.new.out ≡ site_machine.reply s event)
    ((a : Acquainted) → AcquaintedStands c.args.self.now a → c.act.new.out ≡ ruled_machine.reply a event) c.act.ensures.reply
    (λ told a stands. site-told held c.act.new.self event lives oldest c.act.new.out joins told a (subst (λ (h : HeldSite). AcquaintedStands h a) (sym c.self.view_is) stands))

pub returns-else-is_join-clause-step : goal.returns-else-is_join-clause-step
returns-else-is_join-clause-step c =
    let event : Event = (c.args.actor, c.args.request.now) in
    let held = held_site c.self.inside.core c.self.inside.lives c.self.inside.loading in
    let lives = sym c.is_of_lives.ensures ∙ c.if-is_of_lives.false in
    let oldest = sym c.asks_oldest.ensures ∙ c.if-asks_oldest.false in
    let joins = sym c.is_join.ensures ∙ c.if-is_join.false in
    let new = c.act.new.self in
    on-ok c.act.result ((s : Site) → SiteStands held.core s → SiteStands new (site_machine.step s event))
    ((a : Acquainted) → AcquaintedStands c.args.self.now a → AcquaintedStands (held_site new held.lives held.loading) (ruled_machine.step a event)) c.act.ensures.step
    (λ moves a stands. site-moves held new event lives oldest joins moves c.act.ensures.opening a (subst (λ (h : HeldSite). AcquaintedStands h a) (sym c.self.view_is) stands))

pub returns-else-is_join-clause-sure : goal.returns-else-is_join-clause-sure
returns-else-is_join-clause-sure c = λ sure.
    c.act.ensures.sure
    (site-sure (c.args.actor, c.args.request.now) (sym c.is_of_lives.ensures ∙ c.if-is_of_lives.false) (sym c.asks_oldest.ensures ∙ c.if-asks_oldest.false)
    (sym c.is_join.ensures ∙ c.if-is_join.false) sure)

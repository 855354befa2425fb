use Rattle.std.proofs.Common.{◌≡◌, [], ◌∷◌, ◌++◌, List, ℕ, Option, sym, ap, subst, ◌∙◌, append-nil}
use Rattle.std.specs.Prelude.{option_map, option_to_list}
use Rattle.tardis_base.specs.Plain.{Event}
use Rattle.plain_site.specs.Site.{Site}
use Rattle.plain_site.specs.Step.{site_machine}
use Rattle.plain_site.specs.Rest.{lasting_of_event}
use Rattle.plain_site.specs.RestSpellings.{all_spelling}
use Rattle.session_core.specs.Machine.{SiteStands}
use Rattle.join_rules.specs.declared.join_codes.TheConstants.{JOIN}
use Rattle.join_rules.specs.Joins.{asked_to_join, lasting_of_join}
use Rattle.join_rules.specs.Laws.{behind_join}
use Rattle.site_lives.specs.Acquainted.{Acquainted}
use Rattle.site_lives.specs.declared.lives.NewLife.{NewLife}
use Rattle.site_lives.specs.Things.{OfLives, all_spellings}
use Rattle.rest_site.specs.Stands.{HeldSite, held_site, AcquaintedStands}
use Rattle.rest_site.specs.Ruled.{ruled_machine, ruled_bytes}
use Rattle.rest_site.proofs.Ruled.{oldest-told, oldest-moves, join-told, join-moves, join-unsure, site-told, site-moves, site-sure}
use Rattle.rest_site.proofs.Loads.{some-site, some-goes-on}
use Rattle.rest_site.proofs.Seen.{on-ok, oldest-bytes, join-bytes, site-bytes, lives-bytes}
use Rattle.rest_site.proofs.RestSite.answer_lasting.Goals as goal

pub returns-then-is_of_lives-clause-lasts : goal.returns-then-is_of_lives-clause-lasts
returns-then-is_of_lives-clause-lasts c = λ a stands.
    let event : Event = (c.args.actor, c.args.request.now) in
    let old = c.args.log.now.items in
    c.put_life.ensures.items
    ∙ (ap (λ (o : Option NewLife). old ++ all_spellings (option_to_list (option_map OfLives o))) (c.meet-new.ensures.new a stands)
    ∙ ap (λ (bytes : List ℕ). old ++ bytes) (lives-bytes a event (sym c.is_of_lives.ensures ∙ c.if-is_of_lives.true)))

pub returns-then-asks_oldest-clause-reply : goal.returns-then-asks_oldest-clause-reply
returns-then-asks_oldest-clause-reply c = λ a stands.
    let event : Event = (c.args.actor, c.args.request.now) in
    let held = held_site c.self.inside.core c.self.inside.lives c.self.inside.loading in
    let lives = sym c.is_of_lives.ensures ∙ c.if-is_of_lives.false in
    let oldest = sym c.asks_oldest.ensures ∙ c.if-asks_oldest.true in
    oldest-told held event lives oldest c.tell_oldest.new.out c.tell_oldest.ensures a (subst (λ (h : HeldSite). AcquaintedStands h a) (sym c.self.view_is) stands)

pub returns-then-asks_oldest-clause-step : goal.returns-then-asks_oldest-clause-step
returns-then-asks_oldest-clause-step c =
    oldest-moves c.args.self.now (c.args.actor, c.args.request.now) (sym c.is_of_lives.ensures ∙ c.if-is_of_lives.false)
    (sym c.asks_oldest.ensures ∙ c.if-asks_oldest.true)

pub returns-then-asks_oldest-clause-lasts : goal.returns-then-asks_oldest-clause-lasts
returns-then-asks_oldest-clause-lasts c = λ a stands.
    let event : Event = (c.args.actor, c.args.request.now) in
    let old = c.args.log.now.items in
    sym (append-nil old) ∙ ap (λ (bytes : List ℕ). old ++ bytes) (oldest-bytes a event (sym c.asks_oldest.ensures ∙ c.if-asks_oldest.true))

pub returns-then-is_join-clause-reply : goal.returns-then-is_join-clause-reply
returns-then-is_join-clause-reply c =
    let event : Event = (c.args.actor, c.args.request.now) in
    let held = held_site c.self.inside.core c.self.inside.lives c.self.inside.loading in
    let lives = sym c.is_of_lives.ensures ∙ c.if-is_of_lives.false in
    let oldest = sym c.asks_oldest.ensures ∙ c.if-asks_oldest.false in
    let joins = sym c.is_join.ensures ∙ c.if-is_join.true in
    on-ok c.serve_join.result ((s : Site) → SiteStands held.core s → c.serve_join.new.out ≡ JOIN ∷ (asked_to_join s event.1).0 ∷ [])
    ((a : Acquainted) → AcquaintedStands c.args.self.now a → c.serve_join.new.out ≡ ruled_machine.reply a event) c.serve_join.ensures.reply
    (λ told a stands. join-told held c.serve_join.new.core event lives oldest c.serve_join.new.out joins told a (subst (λ (h : HeldSite). AcquaintedStands h a) (sym c.self.view_is) stands))

pub returns-then-is_join-clause-step : goal.returns-then-is_join-clause-step
returns-then-is_join-clause-step c =
    let event : Event = (c.args.actor, c.args.request.now) in
    let held = held_site c.self.inside.core c.self.inside.lives c.self.inside.loading in
    let lives = sym c.is_of_lives.ensures ∙ c.if-is_of_lives.false in
    let oldest = sym c.asks_oldest.ensures ∙ c.if-asks_oldest.false in
    let joins = sym c.is_join.ensures ∙ c.if-is_join.true in
    let new = c.serve_join.new.core in
    on-ok c.serve_join.result ((s : Site) → SiteStands held.core s → SiteStands new (behind_join s event.1))
    ((a : Acquainted) → AcquaintedStands c.args.self.now a → AcquaintedStands (held_site new held.lives held.loading) (ruled_machine.step a event)) c.serve_join.ensures.step
    (λ moves a stands. join-moves held new event lives oldest joins moves c.serve_join.ensures.opening a (subst (λ (h : HeldSite). AcquaintedStands h a) (sym c.self.view_is) stands))

pub returns-then-is_join-clause-sure : goal.returns-then-is_join-clause-sure
returns-then-is_join-clause-sure c = λ sure.
    absurd
    (join-unsure (c.args.actor, c.args.request.now) (sym c.is_of_lives.ensures ∙ c.if-is_of_lives.false) (sym c.asks_oldest.ensures ∙ c.if-asks_oldest.false)
    (sym c.is_join.ensures ∙ c.if-is_join.true) sure)

pub returns-then-is_join-clause-lasts : goal.returns-then-is_join-clause-lasts
returns-then-is_join-clause-lasts c =
    let event : Event = (c.args.actor, c.args.request.now) in
    let old = c.args.log.now.items in
    let new = c.serve_join.new.log.items in
    on-ok c.serve_join.result
    ((s : Site) → SiteStands c.self.inside.core s → new ≡ old ++ all_spelling (option_to_list (lasting_of_join s event.1)))
    ((a : Acquainted) → AcquaintedStands c.args.self.now a → new ≡ old ++ ruled_bytes a event) c.serve_join.ensures.lasts
    (λ lasts a stands.
    let both = subst (λ (h : HeldSite). AcquaintedStands h a) (sym c.self.view_is) stands in
    lasts a.site both.0 ∙ ap (λ (bytes : List ℕ). old ++ bytes) (join-bytes a event (sym c.asks_oldest.ensures ∙ c.if-asks_oldest.false)
    (sym c.is_join.ensures ∙ c.if-is_join.true)))

pub returns-else-is_join-clause-reply : goal.returns-else-is_join-clause-reply
returns-else-is_join-clause-reply c =
    let event : Event = (c.args.actor, c.args.request.now) in
    let held = held_site c.self.inside.core c.self.inside.lives c.self.inside.loading in
    let lives = sym c.is_of_lives.ensures ∙ c.if-is_of_lives.false in
    let oldest = sym c.asks_oldest.ensures ∙ c.if-asks_oldest.false in
    let joins = sym c.is_join.ensures ∙ c.if-is_join.false in
    on-ok c.serve.result ((s : Site) → SiteStands held.core s → c.serve.new.out ≡ site_machine.reply s event)
    ((a : Acquainted) → AcquaintedStands c.args.self.now a → c.serve.new.out ≡ ruled_machine.reply a event) c.serve.ensures.reply
    (λ told a stands. site-told held c.serve.new.core event lives oldest c.serve.new.out joins told a (subst (λ (h : HeldSite). AcquaintedStands h a) (sym c.self.view_is) stands))

pub returns-else-is_join-clause-step : goal.returns-else-is_join-clause-step
returns-else-is_join-clause-step c =
    let event : Event = (c.args.actor, c.args.request.now) in
    let held = held_site c.self.inside.core c.self.inside.lives c.self.inside.loading in
    let lives = sym c.is_of_lives.ensures ∙ c.if-is_of_lives.false in
    let oldest = sym c.asks_oldest.ensures ∙ c.if-asks_oldest.false in
    let joins = sym c.is_join.ensures ∙ c.if-is_join.false in
    let new = c.serve.new.core in
    on-ok c.serve.result ((s : Site) → SiteStands held.core s → SiteStands new (site_machine.step s event))
    ((a : Acquainted) → AcquaintedStands c.args.self.now a → AcquaintedStands (held_site new held.lives held.loading) (ruled_machine.step a event)) c.serve.ensures.step
    (λ moves a stands. site-moves held new event lives oldest joins moves c.serve.ensures.opening a (subst (λ (h : HeldSite). AcquaintedStands h a) (sym c.self.view_is) stands))

pub returns-else-is_join-clause-sure : goal.returns-else-is_join-clause-sure
returns-else-is_join-clause-sure c = λ sure.
    c.serve.ensures.sure
    (site-sure (c.args.actor, c.args.request.now) (sym c.is_of_lives.ensures ∙ c.if-is_of_lives.false) (sym c.asks_oldest.ensures ∙ c.if-asks_oldest.false)
    (sym c.is_join.ensures ∙ c.if-is_join.false) sure)

pub returns-else-is_join-clause-lasts : goal.returns-else-is_join-clause-lasts
returns-else-is_join-clause-lasts c =
    let event : Event = (c.args.actor, c.args.request.now) in
    let old = c.args.log.now.items in
    let new = c.serve.new.log.items in
    on-ok c.serve.result
    ((s : Site) → SiteStands c.self.inside.core s → new ≡ old ++ all_spelling (option_to_list (lasting_of_event s event)))
    ((a : Acquainted) → AcquaintedStands c.args.self.now a → new ≡ old ++ ruled_bytes a event) c.serve.ensures.lasts
    (λ lasts a stands.
    let both = subst (λ (h : HeldSite). AcquaintedStands h a) (sym c.self.view_is) stands in
    lasts a.site both.0
    ∙ ap (λ (bytes : List ℕ). old ++ bytes)
    (site-bytes a event (sym c.is_of_lives.ensures ∙ c.if-is_of_lives.false) (sym c.asks_oldest.ensures ∙ c.if-asks_oldest.false)
    (sym c.is_join.ensures ∙ c.if-is_join.false)))

pub serve_join-requires-clause-stands : goal.serve_join-requires-clause-stands
serve_join-requires-clause-stands c = some-site c.self.inside.core c.self.inside.loading c.self.invariant

pub serve-requires-clause-stands : goal.serve-requires-clause-stands
serve-requires-clause-stands c = some-site c.self.inside.core c.self.inside.loading c.self.invariant

pub invariant_of-self : goal.invariant_of-self
invariant_of-self c =
    some-goes-on c.self.inside.core c.serve_join.new.core c.self.inside.loading c.self.invariant c.serve_join.ensures.stands c.serve_join.ensures.opening

pub invariant_of-self-else-is_join : goal.invariant_of-self-else-is_join
invariant_of-self-else-is_join c =
    some-goes-on c.self.inside.core c.serve.new.core c.self.inside.loading c.self.invariant c.serve.ensures.stands c.serve.ensures.opening

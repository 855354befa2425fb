-- The machine of a site that joins leaves and tells its oldest promise where it is asked to: what it makes of a request about lives, of
-- the one for the oldest promise, of one to join leaves, and of all others.
use Rattle.std.proofs.Common.{◌≡◌, ℕ, Bool, true, false, not, ◌&&◌, ◌||◌, List, [], ◌∷◌, IsTrue, IsFalse, sym, ap, subst, ◌∙◌}
use Rattle.std.proofs.lemmas.Bool.{cond-true, cond-false, both_ways}
use Rattle.tardis_base.specs.Plain.{Event, PlainMachine}
use Rattle.plain_site.specs.Site.{Site}
use Rattle.plain_site.specs.Step.{site_machine}
use Rattle.session_core.specs.Core.{Core}
use Rattle.session_core.specs.Machine.{SiteStands, opened_with}
use Rattle.join_rules.specs.declared.join_codes.TheConstants.{JOIN}
use Rattle.join_rules.specs.Joins.{is_join, asked_to_join, joining}
use Rattle.join_rules.specs.Laws.{behind_join}
use Rattle.site_lives.specs.Lives.{is_of_lives}
use Rattle.site_lives.specs.Acquainted.{Acquainted, about_lives, with_news}
use Rattle.rest_site.specs.Oldest.{what_holds, asks_oldest, oldest_told, telling}
use Rattle.rest_site.specs.Stands.{HeldSite, held_site, AcquaintedStands}
use Rattle.rest_site.proofs.Loads.{goes-on-loading}
use Rattle.rest_site.specs.Ruled.{ruled_machine}

-- another site, with the lives that it knows and what was told
abbrev moved_to : Acquainted → Site → Acquainted
moved_to a site = record a { site = site }

-- all that isn't about lives
abbrev asked_machine : PlainMachine Site
asked_machine = telling (joining site_machine)

module _ (a : Acquainted) (e : Event) where
  abbrev moved : Acquainted
  moved = moved_to a (asked_machine.step a.site e)

  -- about lives
  pub lives-reply : IsTrue (is_of_lives e.1) → (about_lives a e.1).0 ≡ ruled_machine.reply a e
  lives-reply t = sym (cond-true (is_of_lives e.1) (about_lives a e.1).0 (asked_machine.reply a.site e) t)

  pub lives-step : IsTrue (is_of_lives e.1) → with_news (about_lives a e.1).1 a ≡ ruled_machine.step a e
  lives-step t = sym (cond-true (is_of_lives e.1) (with_news (about_lives a e.1).1 a) moved t)

  -- about the site
  asked-reply : IsFalse (is_of_lives e.1) → asked_machine.reply a.site e ≡ ruled_machine.reply a e
  asked-reply f = sym (cond-false (is_of_lives e.1) (about_lives a e.1).0 (asked_machine.reply a.site e) f)

  asked-step : IsFalse (is_of_lives e.1) → moved ≡ ruled_machine.step a e
  asked-step f = sym (cond-false (is_of_lives e.1) (with_news (about_lives a e.1).1 a) moved f)

  -- for the oldest promise
  pub oldest-reply : IsFalse (is_of_lives e.1) → IsTrue (asks_oldest e.1) → oldest_told (what_holds a.site) ≡ ruled_machine.reply a e
  oldest-reply f t = sym (cond-true (asks_oldest e.1) (oldest_told (what_holds a.site)) ((joining site_machine).reply a.site e) t) ∙ asked-reply f

  pub oldest-step : IsFalse (is_of_lives e.1) → IsTrue (asks_oldest e.1) → a ≡ ruled_machine.step a e
  oldest-step f t = ap (moved_to a) (sym (cond-true (asks_oldest e.1) a.site ((joining site_machine).step a.site e) t)) ∙ asked-step f

  other-reply : IsFalse (is_of_lives e.1) → IsFalse (asks_oldest e.1) → (joining site_machine).reply a.site e ≡ ruled_machine.reply a e
  other-reply f o = sym (cond-false (asks_oldest e.1) (oldest_told (what_holds a.site)) ((joining site_machine).reply a.site e) o) ∙ asked-reply f

  other-step : IsFalse (is_of_lives e.1) → IsFalse (asks_oldest e.1) → moved_to a ((joining site_machine).step a.site e) ≡ ruled_machine.step a e
  other-step f o = ap (moved_to a) (sym (cond-false (asks_oldest e.1) a.site ((joining site_machine).step a.site e) o)) ∙ asked-step f

  -- to join leaves
  pub join-reply : IsFalse (is_of_lives e.1) → IsFalse (asks_oldest e.1) → IsTrue (is_join e.1) →
      JOIN ∷ (asked_to_join a.site e.1).0 ∷ [] ≡ ruled_machine.reply a e
  join-reply f o t =
      sym (cond-true (is_join e.1) (JOIN ∷ (asked_to_join a.site e.1).0 ∷ []) (site_machine.reply a.site e) t) ∙ other-reply f o

  pub join-step : IsFalse (is_of_lives e.1) → IsFalse (asks_oldest e.1) → IsTrue (is_join e.1) →
      moved_to a (behind_join a.site e.1) ≡ ruled_machine.step a e
  join-step f o t =
      ap (moved_to a) (sym (cond-true (is_join e.1) (behind_join a.site e.1) (site_machine.step a.site e) t)) ∙ other-step f o

  -- all others
  pub site-reply : IsFalse (is_of_lives e.1) → IsFalse (asks_oldest e.1) → IsFalse (is_join e.1) →
      site_machine.reply a.site e ≡ ruled_machine.reply a e
  site-reply f o g =
      sym (cond-false (is_join e.1) (JOIN ∷ (asked_to_join a.site e.1).0 ∷ []) (site_machine.reply a.site e) g) ∙ other-reply f o

  pub site-step : IsFalse (is_of_lives e.1) → IsFalse (asks_oldest e.1) → IsFalse (is_join e.1) →
      moved_to a (site_machine.step a.site e) ≡ ruled_machine.step a e
  site-step f o g =
      ap (moved_to a) (sym (cond-false (is_join e.1) (behind_join a.site e.1) (site_machine.step a.site e) g)) ∙ other-step f o

-- ===== Want of memory

-- it may fail a request to join leaves
pub join-unsure : (e : Event) → IsFalse (is_of_lives e.1) → IsFalse (asks_oldest e.1) → IsTrue (is_join e.1) → ruled_machine.is_sure e ≡ true → ⊥
join-unsure e f o t sure =
    both_ways (is_join e.1)
    (go (is_of_lives e.1) (asks_oldest e.1) (is_join e.1) (site_machine.is_sure e) f o sure) t
  where
    go : (lives oldest join sure : Bool) → lives ≡ false → oldest ≡ false → (lives || (oldest || not join && sure)) ≡ true → join ≡ false
    go true oldest join sure f o is = absurd (cc)
    go false true join sure f o is = absurd (cc)
    go false false true sure f o is = absurd (cc)
    go false false false sure f o is = cc

-- all others as it may fail the site's
pub site-sure : (e : Event) → IsFalse (is_of_lives e.1) → IsFalse (asks_oldest e.1) → IsFalse (is_join e.1) → ruled_machine.is_sure e ≡ true →
    site_machine.is_sure e ≡ true
site-sure e f o g sure = go (is_of_lives e.1) (asks_oldest e.1) (is_join e.1) (site_machine.is_sure e) f o g sure
  where
    go : (lives oldest join sure : Bool) → lives ≡ false → oldest ≡ false → join ≡ false → (lives || (oldest || not join && sure)) ≡ true →
        sure ≡ true
    go true oldest join sure f o g is = absurd (cc)
    go false true join sure f o g is = absurd (cc)
    go false false true sure f o g is = absurd (cc)
    go false false false sure f o g is = is

-- ===== In memory

module _ (held : HeldSite) (e : Event) (f : IsFalse (is_of_lives e.1)) (t : IsTrue (asks_oldest e.1)) where
  pub oldest-told : (out : List ℕ) → ((s : Site) → SiteStands held.core s → out ≡ oldest_told (what_holds s)) →
      (a : Acquainted) → AcquaintedStands held a → out ≡ ruled_machine.reply a e
  oldest-told out told a stands = told a.site stands.0 ∙ oldest-reply a e f t

  pub oldest-moves : (a : Acquainted) → AcquaintedStands held a → AcquaintedStands held (ruled_machine.step a e)
  oldest-moves a stands = subst (λ (b : Acquainted). AcquaintedStands held b) (oldest-step a e f t) stands

module _ (held : HeldSite) (new : Core) (e : Event) (f : IsFalse (is_of_lives e.1)) (o : IsFalse (asks_oldest e.1)) where
  abbrev behind : HeldSite
  behind = held_site new held.lives held.loading

  pub join-told : (out : List ℕ) → IsTrue (is_join e.1) → ((s : Site) → SiteStands held.core s → out ≡ JOIN ∷ (asked_to_join s e.1).0 ∷ []) →
      (a : Acquainted) → AcquaintedStands held a → out ≡ ruled_machine.reply a e
  join-told out t told a stands = told a.site stands.0 ∙ join-reply a e f o t

  pub join-moves : IsTrue (is_join e.1) → ((s : Site) → SiteStands held.core s → SiteStands new (behind_join s e.1)) →
      opened_with new ≡ opened_with held.core → (a : Acquainted) → AcquaintedStands held a → AcquaintedStands behind (ruled_machine.step a e)
  join-moves t moves same a stands =
      let next = moves a.site stands.0 in
      subst (λ (b : Acquainted). AcquaintedStands behind b) (join-step a e f o t)
      (next, stands.1, goes-on-loading held.core new a.site (behind_join a.site e.1) held.loading a.told stands.0 next same stands.2)

  pub site-told : (out : List ℕ) → IsFalse (is_join e.1) → ((s : Site) → SiteStands held.core s → out ≡ site_machine.reply s e) →
      (a : Acquainted) → AcquaintedStands held a → out ≡ ruled_machine.reply a e
  site-told out g told a stands = told a.site stands.0 ∙ site-reply a e f o g

  pub site-moves : IsFalse (is_join e.1) → ((s : Site) → SiteStands held.core s → SiteStands new (site_machine.step s e)) →
      opened_with new ≡ opened_with held.core → (a : Acquainted) → AcquaintedStands held a → AcquaintedStands behind (ruled_machine.step a e)
  site-moves g moves same a stands =
      let next = moves a.site stands.0 in
      subst (λ (b : Acquainted). AcquaintedStands behind b) (site-step a e f o g)
      (next, stands.1, goes-on-loading held.core new a.site (site_machine.step a.site e) held.loading a.told stands.0 next same stands.2)

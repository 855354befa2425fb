-- A site that opens stands for the plain one with which it opened.
use Rattle.std.proofs.Common.{◌≡◌, ℕ, sym, ap, subst}
use Rattle.tardis_base.specs.declared.records.Limits.{Limits}
use Rattle.plain_site.specs.Site.{opening}
use Rattle.plain_site.specs.Sound.{IsSound}
use Rattle.session_core.specs.Core.{Core}
use Rattle.session_core.specs.Stands.{CoreStands}
use Rattle.session_core.specs.Machine.{SiteStands, opened_with}

pub opens_as : (core : Core) (limits : Limits) (own : ℕ) → CoreStands core (opening limits own) → opened_with core ≡ opening limits own
opens_as core limits own s = subst (λ l. opening l core.book.own ≡ opening limits own) (sym s.limits) (ap (opening limits) s.own)

pub opened_stands : (core : Core) (limits : Limits) (own : ℕ) → CoreStands core (opening limits own) → IsSound (opening limits own) →
    SiteStands core (opened_with core)
opened_stands core limits own stands sound = subst (SiteStands core) (sym (opens_as core limits own stands)) (stands, sound)

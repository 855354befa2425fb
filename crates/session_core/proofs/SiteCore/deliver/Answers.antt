use Rattle.std.proofs.Common.{◌≡◌, refl, subst}
use Rattle.tardis_base.specs.declared.requests.Request.TheVariants.{Deliver}
use Rattle.plain_site.specs.Exchange.{deliver}
use Rattle.plain_site.specs.Site.{Site}
use Rattle.session_core.specs.Gives.{Gives}
use Rattle.session_core.specs.Machine.{SiteStands, opened_with}
use Rattle.session_core.proofs.Telling.{told-sound, still-stands, told-told, gave-opening}
use Rattle.session_core.proofs.SiteCore.deliver.Goals as goal

pub invariant_of-self : goal.invariant_of-self
invariant_of-self c =
    still-stands c.self.inside.parts c.deliver.new.self 0 (Deliver c.args.item) refl c.requires c.deliver.result c.deliver.ensures c.self.invariant

pub returns-clause-given : goal.returns-clause-given
returns-clause-given c =
    subst (λ old. (site : Site) → SiteStands old site → Gives (SiteStands c.deliver.new.self) (deliver site c.args.item) site c.told.result) c.self.view_is
    (told-sound c.self.inside.parts c.deliver.new.self 0 (Deliver c.args.item) refl c.requires c.deliver.result c.told.result c.told.ensures c.deliver.ensures)

pub returns-clause-told : goal.returns-clause-told
returns-clause-told c =
    told-told c.self.inside.parts c.deliver.new.self 0 (Deliver c.args.item) refl c.requires c.deliver.result c.told.result c.told.ensures
    c.deliver.ensures c.self.invariant

pub returns-clause-opening : goal.returns-clause-opening
returns-clause-opening c =
    subst (λ old. opened_with c.deliver.new.self ≡ opened_with old) c.self.view_is
    (gave-opening c.self.inside.parts c.deliver.new.self 0 (Deliver c.args.item) refl c.requires c.deliver.result c.deliver.ensures c.self.invariant)

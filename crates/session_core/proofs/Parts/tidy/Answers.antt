use Rattle.std.proofs.Common.{◌≡◌, ap, subst}
use Rattle.tardis_base.specs.declared.replies.Reply.TheVariants.{Tidied}
use Rattle.plain_site.specs.Rest.{Collection, with_lasting, collected_by}
use Rattle.session_core.specs.Machine.{SiteStands}
use Rattle.session_core.proofs.Parts.tidy.Goals as goal

pub returns : goal.returns
returns c = λ site stands sound.
    let told = subst
    (λ m. SiteStands c.collect-collected.new.self (with_lasting (Collection m) site) × (c.collect-collected.result ≡ collected_by m site))
    c.from.ensures (c.collect-collected.ensures site (stands, sound)) in
    (told.0.0, ap Tidied told.1)

-- One running site gives one reply.
use Rattle.std.specs.Prelude.{◌≡◌, ℕ, Bool, true, IsTrue}
use Rattle.tardis_base.specs.declared.requests.Request.{Request}
use Rattle.tardis_base.specs.declared.requests.Request.TheVariants.{Deliver}
use Rattle.wire_item.specs.Valid.{is_item}
use Rattle.plain_site.specs.Site.{Site}
use Rattle.plain_site.specs.Step.{step}
use Rattle.session_core.specs.Core.{Core}
use Rattle.session_core.specs.Machine.{SiteStands}

-- the request can be asked: what it delivers, if it delivers something, is such as bytes spell
abbrev pub can_be_asked : Request → Bool
can_be_asked (Deliver item) = is_item item
can_be_asked _ = true

-- all plain sites that it stands for give the same reply to each request that can be asked, of each session
abbrev pub GivesOneReply : Core → Type 0
GivesOneReply core = (a b : Site) → SiteStands core a → SiteStands core b → (n : ℕ) (q : Request) → IsTrue (can_be_asked q) → (step a n q).1 ≡ (step b n q).1

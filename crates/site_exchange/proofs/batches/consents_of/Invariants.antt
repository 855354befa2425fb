use Rattle.std.proofs.Common.{◌≡◌, ◌+◌, ◌++◌, drop}
use Rattle.state_dag.specs.Stands.{Stands}
use Rattle.ceiling_book.specs.Book.{floors_of}
use Rattle.plain_site.specs.Site.{Site}
use Rattle.plain_site.specs.Exchange.{consents_from}
use Rattle.site_exchange.specs.Stands.{BookStands}
use Rattle.site_exchange.proofs.batches.consents_of.Given as goal

abbrev pub invariant-loop-place : goal.invariant-loop-place
invariant-loop-place l = (site : Site) → Stands l.dag site.dag site.collected → BookStands l.dag l.book site →
    consents_from 1 (floors_of l.book) ≡ l.consents ++ consents_from (l.place + 1) (drop l.place (floors_of l.book))

use Rattle.std.proofs.Common.{◌≡◌, ◌≤◌, ◌++◌, filter, drop}
use Rattle.tardis_base.specs.Sizes.{most_news}
use Rattle.plain_dag.specs.Collection.{kept_states}
use Rattle.record_store.specs.Stands.{StoreStands}
use Rattle.plain_site.specs.Site.{Site}
use Rattle.plain_site.specs.Exchange.{fitting}
use Rattle.site_exchange.specs.Stands.{BookStands}
use Rattle.site_exchange.specs.News.{is_news, news_for}
use Rattle.site_exchange.proofs.News.{records_of}
use Rattle.site_exchange.proofs.batches.news_for.Given as goal

abbrev pub invariant-loop-slot : goal.invariant-loop-slot
invariant-loop-slot l = record {
  room : l.room ≤ most_news;
  news : (site : Site) → StoreStands l.store site.dag site.collected → BookStands l.store.table l.book site →
      news_for site l.counts ≡ l.news ++ fitting l.room (records_of site.dag
      (filter (is_news site l.counts) (drop l.slot-index (kept_states site.dag site.collected))));
}

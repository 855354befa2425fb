-- A store and a book that stand for a site at rest.
use Rattle.std.specs.Prelude.{◌≡◌, []}
use Rattle.record_store.specs.Store.{Store}
use Rattle.record_store.specs.Stands.{StoreStands}
use Rattle.ceiling_book.specs.Book.{Book, sessions_of, floors_of}
use Rattle.ceiling_book.specs.Places.{ArePlaced}
use Rattle.plain_site.specs.Site.{Site}
use Rattle.plain_site.specs.Sound.{IsSound}
use Rattle.plain_site.specs.Rest.{at_rest}

-- The store stands for the site's history, beside the collected states; the book is of the same site and has its floors, no
-- session is open, and the places of the book are right. The site is at rest and sound.
pub record RestTogether (store : Store) (book : Book) (site : Site) : Type 0 where
  pub history : StoreStands store site.dag site.collected
  pub limits : store.table.limits ≡ site.limits
  pub own : book.own ≡ site.own
  pub max_sessions : book.max_sessions ≡ site.limits.max_sessions
  pub sessions : sessions_of book ≡ []
  pub floors : floors_of book ≡ site.floors
  pub placed : ArePlaced book store.table site.dag site.collected
  pub rests : at_rest site ≡ site
  pub sound : IsSound site

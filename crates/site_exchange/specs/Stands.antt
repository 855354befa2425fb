-- When a book, beside the table of the kept states, stands for what a site knows of floors.
use Rattle.std.specs.Prelude.{◌≡◌, IsTrue}
use Rattle.tardis_base.specs.declared.ids.StateId.{StateId}
use Rattle.tardis_base.specs.Ids.{is_among}
use Rattle.plain_dag.specs.Floors.{is_closed}
use Rattle.state_dag.specs.Table.{Table}
use Rattle.ceiling_book.specs.Book.{Book, floors_of}
use Rattle.ceiling_book.specs.Places.{ArePlaced}
use Rattle.plain_site.specs.Site.{Site}

-- limits, own number and floors are the same, the places of the book are right, and each collected state is closed
pub record BookStands (table : Table) (book : Book) (site : Site) : Type 0 where
  pub limits : table.limits ≡ site.limits
  pub own : book.own ≡ site.own
  pub floors : floors_of book ≡ site.floors
  pub placed : ArePlaced book table site.dag site.collected
  pub closed : (x : StateId) → IsTrue (is_among x site.collected) → IsTrue (is_closed site.dag site.floors x)

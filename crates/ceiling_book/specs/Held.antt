-- What holds of the book's memory at all times.
use Rattle.std.specs.Prelude.{◌≤◌, length}
use Rattle.tardis_base.specs.Sizes.{most_sites, most_sessions}
use Rattle.ceiling_book.specs.declared.CeilingBook.TheInside.{Inside}
use Rattle.ceiling_book.specs.Book.{Book}

-- the book that the memory is seen as
abbrev pub seen : Inside → Book
seen a = record {
  own = a.own;
  max_sessions = a.max_sessions;
  root = a.root;
  sessions = a.sessions.entries;
  floors = a.floors.items;
}

-- the own number is that of a site, of at most 16, and no more sessions are open than may be, which is at most 4,096
pub record IsHeld (a : Inside) : Type 0 where
  pub first : 1 ≤ a.own
  pub last : a.own ≤ length a.floors.items
  pub sites : length a.floors.items ≤ most_sites
  pub few : a.max_sessions ≤ most_sessions
  pub within : length a.sessions.entries ≤ a.max_sessions

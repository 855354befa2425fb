-- Promises as they are kept, and the first of them, seen one behind another.
use Rattle.std.specs.Prelude.{nat_lt, List, [], ◌∷◌, ◌++◌, Option, Some, None, if◌then◌else◌}
use Rattle.tardis_base.specs.declared.records.Record.{Record}
use Rattle.ceiling_book.specs.Book.{Book, sessions_of, floors_of}
use Rattle.rest_site.specs.declared.oldest.Promise.{Promise}
use Rattle.rest_site.specs.Oldest.{ceilings, floors_of_others, first_of}

-- the one that arrived first, of the one that is kept and the next
abbrev pub earlier : Option Promise → Promise → Promise
earlier None next = next
earlier (Some kept) next = if nat_lt next.arrival kept.arrival then next else kept

-- the one that is kept behind the next, if that is one
abbrev pub seen : Option Promise → Option Promise → Option Promise
seen kept None = kept
seen kept (Some next) = Some (earlier kept next)

-- the one that is kept behind these
abbrev pub kept_behind : Option Promise → List Promise → Option Promise
kept_behind kept [] = kept
kept_behind kept (p ∷ ps) = kept_behind (Some (earlier kept p)) ps

-- the first of all promises of a book
abbrev pub first_in_book : List Record → Book → Option Promise
first_in_book rs book = first_of (ceilings rs (sessions_of book) ++ floors_of_others rs book.own (floors_of book))

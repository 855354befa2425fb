-- What a book of ceilings keeps.
use Rattle.std.specs.Prelude.{◌≤◌, ℕ, Bool, ◌==◌, List, map, length, is_some}
use Rattle.tardis_base.specs.Sizes.{most_sites, most_sessions}
use Rattle.tardis_base.specs.declared.ids.Slot.{Slot}
use Rattle.plain_dag.specs.Entries.{entry_of}
use Rattle.plain_dag.specs.Floors.{Session, Sessions, Floor, floor_of}
use Rattle.ceiling_book.specs.declared.parts.OpenSession.{OpenSession}
use Rattle.ceiling_book.specs.declared.parts.KnownFloor.{KnownFloor}

-- the site's own number; how many sessions may be open; where the root stands, or what stands in for it; the open
-- sessions by their numbers; the floor of each site
pub record Book : Type 0 where
  pub own : ℕ
  pub max_sessions : ℕ
  pub root : Slot
  pub sessions : List (ℕ × OpenSession)
  pub floors : List KnownFloor

-- what is so of every book: the own number is that of a site, of at most 16, and no more sessions are open than may be, which
-- is at most 4,096
pub record IsBook (book : Book) : Type 0 where
  pub first : 1 ≤ book.own
  pub last : book.own ≤ length book.floors
  pub sites : length book.floors ≤ most_sites
  pub few : book.max_sessions ≤ most_sessions
  pub within : length book.sessions ≤ book.max_sessions

-- the session without its slots
abbrev pub session_of : OpenSession → Session
session_of s = record { follow = s.follow; ceiling = s.ceiling.state; last = s.last.state }

-- the open sessions, by their numbers
abbrev pub sessions_of : Book → Sessions
sessions_of book = map (λ (e : ℕ × OpenSession). (e.0, session_of e.1)) book.sessions

-- what is known of the floor, without its slot
abbrev pub known_floor : KnownFloor → Floor
known_floor f = record { state = f.place.state; number = f.number; stated = f.stated }

-- the floors of the sites
abbrev pub floors_of : Book → List Floor
floors_of book = map known_floor book.floors

-- the site's own floor
abbrev pub own_floor : Book → Floor
own_floor book = floor_of (floors_of book) book.own

-- the session is open
abbrev pub is_open : Book → ℕ → Bool
is_open book n = is_some (entry_of n (sessions_of book))

-- as many sessions are open as may be
abbrev pub is_full : Book → Bool
is_full book = length (sessions_of book) == book.max_sessions

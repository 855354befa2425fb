-- Sites in memory of which nobody can tell what lasts apart, and a site that goes on with the sessions of another.
use Rattle.std.specs.Prelude.{◌≡◌, Bool, false, ◌||◌}
use Rattle.std.specs.List.{list_all}
use Rattle.std.specs.Map.{values_of}
use Rattle.std.specs.Option.{option_map_or}
use Rattle.tardis_base.specs.Ids.{root, same_id}
use Rattle.state_dag.specs.Table.{Table, id_at}
use Rattle.ceiling_book.specs.declared.parts.OpenSession.{OpenSession}
use Rattle.ceiling_book.specs.Book.{floors_of}
use Rattle.plain_site.specs.Site.{Site}
use Rattle.session_core.specs.Core.{Core}
use Rattle.twin_stores.specs.Stores.{AreTwinStores}

-- Nobody can tell apart what lasts of the two: their stores are twins; they have the same own number, as many sessions may be
-- open, and the floors are the same; and the same state is kept where the root is, or what stands in for it.
pub record AreTwinCores (one other : Core) : Type 0 where
  pub store : AreTwinStores one.store other.store
  pub own : one.book.own ≡ other.book.own
  pub max_sessions : one.book.max_sessions ≡ other.book.max_sessions
  pub floors : floors_of one.book ≡ floors_of other.book
  pub root : id_at one.store.table one.book.root ≡ id_at other.store.table other.book.root

-- the last commit of the session is kept at its slot; or there is none yet, so that it is the root
abbrev pub is_last_kept : Table → OpenSession → Bool
is_last_kept table s = option_map_or (λ x. same_id x s.last.state) (id_at table s.last.slot) false || same_id s.last.state root

-- so it is with each open session
abbrev pub last_commits_stay : Core → Bool
last_commits_stay core = list_all (is_last_kept core.store.table) (values_of core.book.sessions)

-- the site t with the sessions of s, their transactions, and what waits there
abbrev pub with_sessions_of : Site → Site → Site
with_sessions_of s t = record t { sessions = s.sessions; txns = s.txns; waiting = s.waiting }

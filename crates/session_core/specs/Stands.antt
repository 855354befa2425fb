-- When a site in memory stands for a plain site.
use Rattle.std.specs.Prelude.{◌≡◌, ℕ, Some}
use Rattle.std.specs.Option.{option_map}
use Rattle.plain_dag.specs.Entries.{entry_of}
use Rattle.record_store.specs.Stands.{StoreStands}
use Rattle.ceiling_book.specs.Book.{sessions_of, floors_of}
use Rattle.ceiling_book.specs.Places.{ArePlaced}
use Rattle.merge_txn.specs.declared.Txn.{Txn as Kept}
use Rattle.merge_txn.specs.declared.Txn.TheVariants.{Single as KeptSingle, Merge as KeptMerge}
use Rattle.plain_site.specs.Site.{Site, Txn, Single, Merge}
use Rattle.plain_site.specs.Sound.{IsSound}
use Rattle.session_core.specs.Core.{Core}
use Rattle.session_core.specs.Txns.{IsNamed}

-- the plain transaction that is kept so
abbrev pub txn_of : Kept → Txn
txn_of (KeptSingle t) = Single (record { state = t.state; reads = t.reads; writes = t.writes })
txn_of (KeptMerge t) = Merge (record { states = t.states; writes = t.writes })

-- Part by part: the store stands for the history, beside the collected states; limits, own number, sessions and floors are
-- the same; the places of the book are right; each session has the transaction that is kept for it, and the slots of that
-- are those of the states that it reads, in their order. The same records wait.
pub record CoreStands (core : Core) (site : Site) : Type 0 where
  pub store : StoreStands core.store site.dag site.collected
  pub limits : core.store.table.limits ≡ site.limits
  pub own : core.book.own ≡ site.own
  pub max_sessions : core.book.max_sessions ≡ site.limits.max_sessions
  pub sessions : sessions_of core.book ≡ site.sessions
  pub floors : floors_of core.book ≡ site.floors
  pub placed : ArePlaced core.book core.store.table site.dag site.collected
  pub txns : (n : ℕ) → option_map txn_of (entry_of n core.txns) ≡ entry_of n site.txns
  pub slots : (n : ℕ) (t : Kept) → entry_of n core.txns ≡ Some t → IsNamed core.store.table t
  pub waiting : core.waiting ≡ site.waiting

-- it stands for some plain site that is sound
pub record StandsForSite (core : Core) : Type 0 where
  pub site : Site
  pub stands : CoreStands core site
  pub sound : IsSound site

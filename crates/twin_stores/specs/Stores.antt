-- Stores that nobody can tell apart.
use Rattle.std.specs.Prelude.{◌≡◌, ℕ, List, map}
use Rattle.version_list.specs.Versions.{versions_of}
use Rattle.record_store.specs.Store.{Store}
use Rattle.record_store.specs.Stands.{shown_version}
use Rattle.twin_stores.specs.Tables.{AreTwinTables}

-- the tables are twins, and each key has the same versions in the same order, at the same states
pub record AreTwinStores (one other : Store) : Type 0 where
  pub tables : AreTwinTables one.table other.table
  pub versions : (k : List ℕ) → map (shown_version one.table) (versions_of one.versions k)
      ≡ map (shown_version other.table) (versions_of other.versions k)

-- What a store holds.
use Rattle.state_dag.specs.Table.{Table}
use Rattle.version_list.specs.Versions.{Versions}

-- the table of the kept states, and the versions of the keys at them
pub record Store : Type 0 where
  pub table : Table
  pub versions : Versions

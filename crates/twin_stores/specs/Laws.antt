-- Twins stand for the same histories.
use Rattle.std.specs.Prelude.{◌≡◌, List}
use Rattle.tardis_base.specs.declared.ids.StateId.{StateId}
use Rattle.tardis_base.specs.declared.records.Record.{Record}
use Rattle.state_dag.specs.Table.{Table}
use Rattle.state_dag.specs.Stands.{Stands}
use Rattle.record_store.specs.Store.{Store}
use Rattle.record_store.specs.Stands.{StoreStands}
use Rattle.twin_stores.specs.Tables.{AreTwinTables}
use Rattle.twin_stores.specs.Stores.{AreTwinStores}

-- ===== Tables

-- tables of the same limits that stand for one history are twins
abbrev pub TablesOfOneHistoryAreTwins : Type 0
TablesOfOneHistoryAreTwins =
    (one other : Table) (rs : List Record) (ks : List StateId) → Stands one rs ks → Stands other rs ks → one.limits ≡ other.limits → AreTwinTables one other

-- where each of two twins stands for some history, the other one stands for each history that the one stands for
abbrev pub TwinTablesStandForTheSame : Type 0
TwinTablesStandForTheSame =
    (one other : Table) (rs rs' : List Record) (ks ks' : List StateId) → Stands one rs ks → Stands other rs' ks' → AreTwinTables one other → Stands other rs ks

-- tables that stand for one history stand for the same histories, whatever their limits
abbrev pub TablesOfOneHistoryStandForTheSame : Type 0
TablesOfOneHistoryStandForTheSame =
    (one other : Table) (rs rs' : List Record) (ks ks' : List StateId) → Stands one rs ks → Stands other rs ks → Stands one rs' ks' → Stands other rs' ks'

-- ===== Stores

-- so it is with stores
abbrev pub StoresOfOneHistoryAreTwins : Type 0
StoresOfOneHistoryAreTwins =
    (one other : Store) (rs : List Record) (ks : List StateId) → StoreStands one rs ks → StoreStands other rs ks →
    one.table.limits ≡ other.table.limits → AreTwinStores one other

abbrev pub TwinStoresStandForTheSame : Type 0
TwinStoresStandForTheSame =
    (one other : Store) (rs rs' : List Record) (ks ks' : List StateId) → StoreStands one rs ks → StoreStands other rs' ks' → AreTwinStores one other →
    StoreStands other rs ks

abbrev pub StoresOfOneHistoryStandForTheSame : Type 0
StoresOfOneHistoryStandForTheSame =
    (one other : Store) (rs rs' : List Record) (ks ks' : List StateId) → StoreStands one rs ks → StoreStands other rs ks → StoreStands one rs' ks' →
    StoreStands other rs' ks'

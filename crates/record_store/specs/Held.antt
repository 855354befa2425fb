-- What holds of the store's memory at all times.
use Rattle.std.specs.Prelude.{◌<◌, IsTrue}
use Rattle.tardis_base.specs.declared.ids.Slot.{Slot}
use Rattle.state_dag.specs.Table.{arrive_in_order, is_kept_at, arrival_at}
use Rattle.version_list.specs.Versions.{IsInOrder, is_noted}
use Rattle.record_store.specs.declared.RecordStore.TheInside.{Inside}
use Rattle.record_store.specs.Store.{Store}
use Rattle.record_store.specs.ChildNotes.{AreTrueNotes}

-- the store that the memory is seen as
abbrev pub seen : Inside → Store
seen a = record { table = a.dag; versions = a.versions }

-- the table's entries stand in arrival order; each version is at a kept state, and the versions of each key stand in the
-- order of their arrival; for each kept state but the first there is a note of keys; what is noted of children is so
pub record IsHeld (a : Inside) : Type 0 where
  pub in_order : IsTrue (arrive_in_order a.dag.entries)
  pub versions : IsInOrder (is_kept_at a.dag) (arrival_at a.dag) a.versions
  pub noted : (s t : Slot) → IsTrue (is_kept_at a.dag s) → IsTrue (is_kept_at a.dag t) → arrival_at a.dag t < arrival_at a.dag s
      → IsTrue (is_noted a.versions s)
  pub children : AreTrueNotes a.dag a.versions a.notes

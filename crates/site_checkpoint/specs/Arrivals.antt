-- What is asked of a state that arrives.
use Rattle.std.specs.Prelude.{◌≡◌, ℕ, ◌≤◌, ◌+◌, ◌-◌, Bool, false, ◌==◌, ◌&&◌, List, is_none, slice_get, unwrap_or, IsTrue, Result, Ok, Err, ⊤}
use Rattle.std.specs.List.{list_all}
use Rattle.tardis_base.specs.declared.faults.NoMemory.{NoMemory as OutOfMemory}
use Rattle.tardis_base.specs.declared.faults.AddFault.{AddFault}
use Rattle.tardis_base.specs.declared.faults.AddFault.TheVariants.{NoMemory as NoRoomInMemory}
use Rattle.tardis_base.specs.declared.ids.StateId.{StateId}
use Rattle.tardis_base.specs.declared.records.Limits.{Limits}
use Rattle.tardis_base.specs.declared.records.Record.{Record}
use Rattle.tardis_base.specs.Valid.{is_within, is_record}
use Rattle.plain_dag.specs.States.{count_of_site}
use Rattle.plain_dag.specs.Above.{are_apart}
use Rattle.plain_dag.specs.Conflicts.{open_conflict}
use Rattle.plain_dag.specs.Collection.{is_kept}
use Rattle.state_dag.specs.Table.{Table}
use Rattle.plain_checkpoint.specs.Checkpoints.{Told, takes_child}
use Rattle.site_checkpoint.specs.Loaded.{Loaded}
use Rattle.site_checkpoint.specs.Stands.{LoadedStands}

-- the state is the next of one of so many sites
abbrev pub is_next_of : ℕ → List Record → StateId → Bool
is_next_of sites rs x = is_within 1 sites x.site && x.sequence == count_of_site rs x.site + 1

-- the kept parents of the record are apart and take one child more, and it writes each conflict key of them
abbrev pub fits_below : Limits → Told → Record → Bool
fits_below limits t r =
    are_apart t.dag r.parents && list_all (takes_child limits t) r.parents && is_none (open_conflict t.dag r.parents r.writes)

-- nothing but want of room speaks against the record
abbrev pub is_welcome : Limits → Told → Record → Bool
is_welcome limits t r =
    is_record r && is_within 1 limits.sites r.id.site && r.id.sequence == count_of_site t.dag r.id.site + 1
    && list_all (is_kept t.dag t.collected) r.parents && are_apart t.dag r.parents && list_all (takes_child limits t) r.parents
    && is_none (open_conflict t.dag r.parents r.writes)

-- so it is for all for which it stands
abbrev pub IsWelcomeTo : Loaded → Record → Type 0
IsWelcomeTo loaded r = (t : Told) → LoadedStands loaded t → IsTrue (is_welcome loaded.store.table.limits t r)

-- the state is the next of one of the table's sites
pub record IsNextIn (table : Table) (x : StateId) : Type 0 where
  pub first : 1 ≤ x.site
  pub last : x.site ≤ table.limits.sites
  pub next : x.sequence ≡ unwrap_or (slice_get table.counts (x.site - 1)) 0 + 1

-- what is told of a record that was not added: there was no memory, or else no room
abbrev pub UnaddedAs : AddFault → Result Bool OutOfMemory → Type 0
UnaddedAs NoRoomInMemory (Ok answer) = ⊥
UnaddedAs NoRoomInMemory (Err fault) = ⊤
UnaddedAs fault result = result ≡ Ok false

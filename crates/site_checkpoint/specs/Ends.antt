-- The end of a checkpoint: floors that are told, and the site that stands then.
use Rattle.std.specs.Prelude.{ℕ, Bool, ◌&&◌, nat_le, List, map, Option, Some, None, Result, Ok, Err, IsTrue, IsFalse, ⊤}
use Rattle.std.specs.List.{list_all}
use Rattle.tardis_base.specs.declared.faults.NoMemory.{NoMemory as OutOfMemory}
use Rattle.tardis_base.specs.declared.records.Limits.{Limits}
use Rattle.tardis_base.specs.Valid.{is_u32}
use Rattle.plain_dag.specs.States.{is_known, count_of_site}
use Rattle.plain_dag.specs.Collection.{is_kept}
use Rattle.plain_dag.specs.Floors.{Floor}
use Rattle.plain_site.specs.Sound.{are_sound_floors}
use Rattle.plain_checkpoint.specs.Checkpoints.{Told, fits_floors, checkpoint_site}
use Rattle.session_core.specs.Core.{Core}
use Rattle.session_core.specs.Machine.{SiteStands}
use Rattle.site_checkpoint.specs.declared.ends.ToldFloor.{ToldFloor}
use Rattle.site_checkpoint.specs.Loaded.{Loaded}
use Rattle.site_checkpoint.specs.Stands.{LoadedStands}

-- the floor that is told
abbrev pub floor_told : ToldFloor → Floor
floor_told f = record { state = f.state; number = f.number; stated = f.stated }

-- the floors that are told, in the order of the sites' numbers
abbrev pub floors_told : List ToldFloor → List Floor
floors_told fs = map floor_told fs

-- the floors fit, and the site stands that is told with them; or they don't fit; or there was no memory
abbrev pub EndedAs : Limits → (own : ℕ) → Told → List Floor → Result (Option Core) OutOfMemory → Type 0
EndedAs limits own t fs (Ok (Some core)) = IsTrue (fits_floors limits t fs) × SiteStands core (checkpoint_site limits own t fs)
EndedAs limits own t fs (Ok None) = IsFalse (fits_floors limits t fs)
EndedAs limits own t fs (Err fault) = ⊤

-- so it is for all for which it stood
abbrev pub EndsAs : Loaded → (own : ℕ) → List Floor → Result (Option Core) OutOfMemory → Type 0
EndsAs loaded own fs result = (t : Told) → LoadedStands loaded t → EndedAs loaded.store.table.limits own t fs result

-- ===== One floor after another

-- the floor may be that of the site of this number: its state is kept, and no more states of the site were stated than there are
abbrev pub may_be_floor : Told → ℕ → Floor → Bool
may_be_floor t n f =
    is_known t.dag f.state && nat_le f.stated (count_of_site t.dag n) && is_u32 f.number && is_kept t.dag t.collected f.state

-- so may these be, of the sites from this one on
abbrev pub may_be_floors : Told → ℕ → List Floor → Bool
may_be_floors t n fs = are_sound_floors t.dag n fs && list_all (λ f. is_kept t.dag t.collected f.state) fs

-- What becomes of a part that is told.
use Rattle.std.specs.Prelude.{◌≡◌, Bool, true, false, Result, Ok, Err, IsTrue, IsFalse, ⊤}
use Rattle.tardis_base.specs.declared.faults.NoMemory.{NoMemory as OutOfMemory}
use Rattle.tardis_base.specs.declared.records.Limits.{Limits}
use Rattle.state_dag.specs.declared.rows.RowFault.{RowFault}
use Rattle.state_dag.specs.declared.rows.RowFault.TheVariants.{NoMemory as RowNoMemory}
use Rattle.plain_checkpoint.specs.Checkpoints.{Told, Part, with_part, fits_part}
use Rattle.site_checkpoint.specs.Loaded.{Loaded}
use Rattle.site_checkpoint.specs.Stands.{LoadedStands}

-- it fits, and was taken; or it doesn't, or there was no memory, and what was told before stands
abbrev pub TakenUnder : Limits → Loaded → Told → Part → Result Bool OutOfMemory → Type 0
TakenUnder limits new t p (Ok true) = IsTrue (fits_part limits t p) × LoadedStands new (with_part p t)
TakenUnder limits new t p (Ok false) = IsFalse (fits_part limits t p) × LoadedStands new t
TakenUnder limits new t p (Err fault) = LoadedStands new t

-- so it is for all for which it stood
abbrev pub TakesPart : Loaded → Loaded → Part → Result Bool OutOfMemory → Type 0
TakesPart old new p result = (t : Told) → LoadedStands old t → TakenUnder old.store.table.limits new t p result

-- what is told of a line that did not arrive: there was no memory, or else it doesn't fit
abbrev pub UntakenAs : RowFault → Result Bool OutOfMemory → Type 0
UntakenAs RowNoMemory (Ok answer) = ⊥
UntakenAs RowNoMemory (Err fault) = ⊤
UntakenAs fault result = result ≡ Ok false

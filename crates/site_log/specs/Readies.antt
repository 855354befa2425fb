-- From a disk that is read to a log that goes on.
use Rattle.std.specs.Prelude.{◌≡◌, ℕ, Bool, true, false, List, [], length, drop}
use Rattle.rest_machine.specs.declared.resting.Resting.{Ghosts as AResting}
use Rattle.tardis_io.specs.Faults.{Rose}
use Rattle.disk_store.specs.Disks.{Only}
use Rattle.disk_store.specs.declared.disks.Disk.{Ghosts as ADisk}
use Rattle.log_groups.specs.declared.fronts.LogFront.{LogFront}
use Rattle.log_groups.specs.Logs.{Holds}
use Rattle.site_log.specs.declared.ends.OpenEnd.{OpenEnd}
use Rattle.site_log.specs.declared.ends.OpenEnd.TheVariants.{NoMemory, Disk}
use Rattle.site_log.specs.declared.opens.Ready.{Ready}
use Rattle.site_log.specs.Kept.{TakesAll}
use Rattle.site_log.specs.Files.{text_of, IsAtRest}
use Rattle.site_log.specs.Replays.{ending_of}
use Rattle.site_log.specs.Opens.{Finds}

-- a disk reads these bytes, and nothing is pending
pub record IsLoaded {K : Type 0} (k : ADisk K) (disk : K) (bytes : List ℕ) : Type 0 where
  pub same : bytes ≡ k.reads disk
  pub durable : Only (k.reads disk) (k.may_leave disk)

-- why nothing was read or written: the disk failed, or there is no memory
abbrev pub DiskEnd : ℕ → ℕ → OpenEnd → Type 0
DiskEnd before now Disk = Rose before now
DiskEnd before now NoMemory = Unit {0}
DiskEnd before now _ = ⊥

-- a disk has a log of these bodies, which ends at a place, torn or not; nothing is pending
pub record HasLog {K : Type 0} (k : ADisk K) (disk : K) (front : LogFront) (bodies : List (List ℕ)) (place size : ℕ) (torn : Bool) : Type 0 where
  pub held : Holds (k.reads disk) front bodies (drop place (k.reads disk)) (ending_of torn)
  pub durable : Only (k.reads disk) (k.may_leave disk)
  pub at : place ≡ length (text_of front bodies)
  pub long : size ≡ length (k.reads disk)

-- a new file was made: it has the wanted front and no bodies
pub record IsBegun {K : Type 0} (k : ADisk K) (disk now : K) (wanted : LogFront) (ready : Ready) : Type 0 where
  pub found : ready.found ≡ record { front = wanted; groups = 0; bytes = length (text_of wanted []); is_torn = false; is_new = true }
  pub rest : k.honest disk → IsAtRest k now wanted [] ready.found.bytes ready.room

module _ {M K : Type 0} (m : AResting M) (k : ADisk K) where
  -- these bodies were found on a disk, and the machine took them back; now the disk has their log, whole
  pub record IsReady (old new : M) (disk now : K) (wanted : LogFront) (ready : Ready) (bodies : List (List ℕ)) : Type 0 where
    pub found : k.honest disk → Finds (k.reads disk) wanted ready.found bodies
    pub groups : ready.found.groups ≡ length bodies
    pub bytes : ready.found.bytes ≡ length (text_of ready.found.front bodies)
    pub rest : k.honest disk → IsAtRest k now ready.found.front bodies ready.found.bytes ready.room
    pub taken : (s : m.Plain) → m.stands old s → (t : m.Plain) × (TakesAll m s bodies t × m.stands new t)

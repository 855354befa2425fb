-- A log that is opened on a disk.
use Rattle.std.specs.Prelude.{◌≡◌, ◌⊎◌, ℕ, ◌≤◌, true, false, List, [], ◌∷◌, length, drop, Result, Ok, Err}
use Rattle.rest_machine.specs.declared.resting.Resting.{Ghosts as AResting}
use Rattle.disk_store.specs.Disks.{NoMore, LeavesOnly}
use Rattle.disk_store.specs.declared.disks.Disk.{Ghosts as ADisk}
use Rattle.log_groups.specs.declared.fronts.LogFront.{LogFront}
use Rattle.log_groups.specs.declared.readers.FirstItem.TheVariants.{NotALog as FirstNotALog}
use Rattle.log_groups.specs.Logs.{Holds}
use Rattle.log_groups.specs.Steps.{IsFirst}
use Rattle.site_log.specs.declared.ends.OpenEnd.{OpenEnd}
use Rattle.site_log.specs.declared.ends.OpenEnd.TheVariants.{NotALog, Disk as DiskFailed}
use Rattle.site_log.specs.declared.opens.FoundLog.{FoundLog}
use Rattle.site_log.specs.declared.opens.OpenedLog.{OpenedLog}
use Rattle.site_log.specs.declared.opens.NotOpened.{NotOpened}
use Rattle.site_log.specs.Kept.{starts, TakesAll}
use Rattle.site_log.specs.Images.{HoldsBodies}
use Rattle.site_log.specs.Files.{text_of}
use Rattle.site_log.specs.Replays.{ending_of}
use Rattle.site_log.specs.Reads.{IsWanted, Refuses}
use Rattle.site_log.specs.News.{IsNew}
use Rattle.site_log.specs.Stood.{Stands}

-- what the bytes of a file were found to be: a new file, which gets the wanted front and has no bodies; or a log of these bodies
abbrev pub Finds : List ℕ → LogFront → FoundLog → List (List ℕ) → Type 0
Finds bytes wanted found bodies =
    (IsNew bytes × (found.is_new ≡ true) × (found.is_torn ≡ false) × (found.front ≡ wanted) × (bodies ≡ []))
    ⊎ ((found.is_new ≡ false) × IsWanted found.front wanted × Holds bytes found.front bodies (drop found.bytes bytes) (ending_of found.is_torn))

-- What a crash may leave of a file while it is opened: where it holds the wanted log, the same bodies; where it is new, a new one, or
-- the wanted front and no bodies.
abbrev pub MayBecome : List ℕ → LogFront → List ℕ → Type 0
MayBecome bytes wanted image =
    ((front : LogFront) × ((bodies : List (List ℕ)) × (IsWanted front wanted × HoldsBodies front bodies bytes × HoldsBodies front bodies image)))
    ⊎ (IsNew bytes × (IsNew image ⊎ HoldsBodies wanted [] image))

-- from old to new a disk was only read: it reads as before, and no crash leaves an image that it might not have left before
pub record WasRead {K : Type 0} (k : ADisk K) (old new : K) : Type 0 where
  pub same : k.reads new ≡ k.reads old
  pub crash : NoMore (k.may_leave old) (k.may_leave new)
  pub later : k.moment old ≤ k.moment new
  pub since : (t : ℕ) (image : List ℕ) → t ≤ k.moment old → k.left_since new t image → k.left_since old t image

-- a crash at any moment of an opening leaves what it might have left before, or what the file may become
abbrev pub OpeningLeaves : {K : Type 0} → ADisk K → K → K → LogFront → Type 0
OpeningLeaves k disk now wanted =
    LeavesOnly k.moment k.left_since disk now (λ image. k.may_leave disk image ⊎ MayBecome (k.reads disk) wanted image)

module _ {M K : Type 0} where
  -- the disk behind an opening
  abbrev pub disk_of : Result (OpenedLog M K) (NotOpened K) → K
  disk_of (Ok opened) = opened.log.file.disk
  disk_of (Err refused) = refused.disk

module _ {M : Type 0} (m : AResting M) where
  -- why bytes aren't opened as the wanted log: those that are no log aren't a new file's either
  abbrev pub NotTaken : M → List ℕ → LogFront → OpenEnd → Type 0
  NotTaken old bytes wanted NotALog = IsFirst bytes FirstNotALog × (IsNew bytes → ⊥)
  NotTaken old bytes wanted end = Refuses m old bytes wanted end

module _ {M K : Type 0} (m : AResting M) (k : ADisk K) where
  -- an opening that ends so, and not since the disk failed, only read the disk, and what it reads is why
  abbrev pub IsRefused : M → K → LogFront → OpenEnd → K → Type 0
  IsRefused old disk wanted end now = k.honest disk → (end ≡ DiskFailed → ⊥) → WasRead k disk now × NotTaken m old (k.reads disk) wanted end

  -- These bodies were found on a disk; the machine took them back, and where it had just opened it goes on behind them, with all of them
  -- settled by now.
  pub record IsOpened (old : M) (disk : K) (wanted : LogFront) (opened : OpenedLog M K) (bodies : List (List ℕ)) : Type 0 where
    pub found : k.honest disk → Finds (k.reads disk) wanted opened.found bodies
    pub groups : opened.found.groups ≡ length bodies
    pub bytes : opened.found.bytes ≡ length (text_of opened.found.front bodies)
    pub front : opened.log.file.front ≡ opened.found.front
    pub runs : opened.log.file.failed ≡ false
    pub stands : (s : m.Plain) → m.stands old s → (t : m.Plain) × (TakesAll m s bodies t × m.stands opened.log.machine t
        × (s ≡ m.opening old
        → Stands m k opened.log (starts t bodies) (record { moment = k.moment opened.log.file.disk; count = length bodies } ∷ [])))

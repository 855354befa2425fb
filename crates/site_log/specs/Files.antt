-- A log's file while it is open.
use Rattle.std.specs.Prelude.{◌≡◌, ◌⊎◌, ℕ, ◌<◌, Bool, true, List, [], ◌∷◌, ◌++◌, length}
use Rattle.std.specs.List.{AllByRecursion}
use Rattle.tardis_io.specs.Faults.{Rose}
use Rattle.disk_store.specs.Disks.{NoMore, Only}
use Rattle.disk_store.specs.declared.disks.Disk.{Ghosts as ADisk}
use Rattle.log_text.specs.Texts.{log_text, IsZeros}
use Rattle.log_groups.specs.declared.fronts.LogFront.{LogFront}
use Rattle.log_groups.specs.Items.{IsFront, IsBody, log_items}
use Rattle.site_log.specs.Images.{HoldsBodies}
use Rattle.site_log.specs.Sizes.{last_place}

-- the text of a log of this front and these bodies
abbrev pub text_of : LogFront → List (List ℕ) → List ℕ
text_of front bodies = log_text (log_items front bodies)

-- the disk reads the log's text, which ends at a place, and zeros up to the file's end; nothing is pending
pub record IsAtRest {K : Type 0} (k : ADisk K) (disk : K) (front : LogFront) (bodies : List (List ℕ)) (place room : ℕ) : Type 0 where
  pub zeros : List ℕ
  pub text : k.reads disk ≡ text_of front bodies ++ zeros
  pub clean : IsZeros zeros
  pub is_front : IsFront front
  pub each : AllByRecursion IsBody bodies
  pub durable : Only (k.reads disk) (k.may_leave disk)
  pub at : place ≡ length (text_of front bodies)
  pub long : room ≡ length (k.reads disk)

-- a text is the log of this front and these bodies, of which there are so many
pub record IsLogText (text : List ℕ) (front : LogFront) (number : ℕ) (bodies : List (List ℕ)) : Type 0 where
  pub spelled : text ≡ text_of front bodies
  pub each : AllByRecursion IsBody bodies
  pub count : number ≡ length bodies

-- the ones or the others
abbrev pub HoldsEither : LogFront → List (List ℕ) → List (List ℕ) → List ℕ → Type 0
HoldsEither front bodies others image = HoldsBodies front bodies image ⊎ HoldsBodies front others image

-- the bodies so far, or these and one more
abbrev pub HoldsOneMore : LogFront → List (List ℕ) → List ℕ → List ℕ → Type 0
HoldsOneMore front bodies body image = HoldsBodies front bodies image ⊎ HoldsBodies front (bodies ++ body ∷ []) image

-- a file's disk; what its log says first; the number of the next group, and its place; how many bytes the file has; and whether a
-- call failed, after which the disk is left as it is
pub record OpenFile (K : Type 0) : Type 0 where
  pub disk : K
  pub front : LogFront
  pub number : ℕ
  pub place : ℕ
  pub room : ℕ
  pub failed : Bool

-- the file has a log of these bodies
pub record IsFile {K : Type 0} (k : ADisk K) (file : OpenFile K) (bodies : List (List ℕ)) : Type 0 where
  pub rest : IsAtRest k file.disk file.front bodies file.place file.room
  pub number : file.number ≡ length bodies

-- the file is the same but for its disk, of which nothing changed to a reader
pub record IsSameFile {K : Type 0} (k : ADisk K) (old new : OpenFile K) : Type 0 where
  pub front : new.front ≡ old.front
  pub number : new.number ≡ old.number
  pub place : new.place ≡ old.place
  pub room : new.room ≡ old.room
  pub failed : new.failed ≡ old.failed
  pub reads : k.honest old.disk → k.reads new.disk ≡ k.reads old.disk
  pub crash : k.honest old.disk → NoMore (k.may_leave old.disk) (k.may_leave new.disk)

-- why putting a group may fail: it failed before; the disk counted a fault; or the log is too long: the next group would begin behind
-- the last place, or has no number
abbrev pub MayFail : {K : Type 0} → ADisk K → OpenFile K → OpenFile K → Type 0
MayFail k old new =
    (old.failed ≡ true) ⊎ (Rose (k.faults old.disk) (k.faults new.disk) ⊎ ((last_place < old.place) ⊎ (old.number ≡ 18446744073709551615)))

-- What calls of a disk leave, at each moment.
use Rattle.std.specs.Prelude.{◌≡◌, ℕ, ◌≤◌, List, length}
use Rattle.std.specs.List.{AllByRecursion}
use Rattle.disk_store.specs.Disks.{Only, NoMore}
use Rattle.site_journal.specs.Texts.{IsEntry, marked, journal_text, EndsAt}
use Rattle.disk_store.specs.declared.disks.Disk.{Ghosts as ADisk}

-- the disk reads the journal text of the entries, and nothing is pending
pub record IsAtRest {D : Type 0} (k : ADisk D) (disk : D) (entries : List (List ℕ)) : Type 0 where
  pub text : k.reads disk ≡ journal_text entries
  pub durable : Only (k.reads disk) (k.may_leave disk)

-- from old to new a disk was only read: no crash leaves an image that it might not have left before
pub record WasRead {D : Type 0} (k : ADisk D) (old new : D)
    : Type 0 where
  pub same : k.reads new ≡ k.reads old
  pub crash : NoMore (k.may_leave old) (k.may_leave new)
  pub later : k.moment old ≤ k.moment new
  pub since : (t : ℕ) (image : List ℕ) → t ≤ k.moment old → k.left_since new t image → k.left_since old t image

-- the disk is at rest, and this is the place of its last byte
pub record IsBehind {D : Type 0} (k : ADisk D) (disk : D) (place : ℕ) (entries : List (List ℕ)) : Type 0 where
  pub rest : IsAtRest k disk entries
  pub each : AllByRecursion IsEntry entries
  pub at : place ≡ length (marked entries)

-- the disk has these entries, which end at a place; nothing is pending
pub record IsTorn {D : Type 0} (k : ADisk D) (disk : D) (entries : List (List ℕ)) (place size : ℕ) : Type 0 where
  pub rest : List ℕ
  pub ends : EndsAt (k.reads disk) entries rest
  pub durable : Only (k.reads disk) (k.may_leave disk)
  pub at : place ≡ length (marked entries)
  pub long : size ≡ length (k.reads disk)

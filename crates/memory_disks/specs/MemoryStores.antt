-- A store of one disk in memory.
use Rattle.std.specs.Prelude.{◌≡◌, ℕ, List, Bool, false, Option, Some, None}
use Rattle.disk_store.specs.Stores.{ToldStore}
use Rattle.memory_disks.specs.declared.memory_disks.MemoryDisk.{MemoryDisk}
use Rattle.memory_disks.specs.declared.memory_stores.Held.{Held}
use Rattle.memory_disks.specs.declared.memory_stores.Held.TheVariants.{Within, Out, Back}

-- what contracts see of it: what it tells, its count of faults, and whether its disk was asked for last while it was out
pub record KeptStore : Type 0 where
  pub told : ToldStore MemoryDisk
  pub faults : ℕ
  pub locked : Bool

-- a store whose disk is there, at this path, and wasn't asked for anything
abbrev pub store_of : List ℕ → MemoryDisk → KeptStore
store_of path disk = record { told = record { at = path; within = Some disk; back = None; out = 0; elsewhere = 0 }; faults = 0; locked = false }

-- where the disk is
abbrev pub told_of : List ℕ → Held → ℕ → ToldStore MemoryDisk
told_of path (Within disk) n = record { at = path; within = Some disk; back = None; out = 0; elsewhere = n }
told_of path Out n = record { at = path; within = None; back = None; out = 1; elsewhere = n }
told_of path (Back disk) n = record { at = path; within = None; back = Some disk; out = 0; elsewhere = n }

-- a disk that wasn't handed out yet has counted no fault
abbrev pub IsHeld : Held → Type 0
IsHeld (Within disk) = disk.plan.faults ≡ 0
IsHeld Out = Unit {0}
IsHeld (Back disk) = Unit {0}

-- the last call found the disk held only where it is out
abbrev pub IsLock : Held → Bool → Type 0
IsLock Out locked = Unit {0}
IsLock (Within disk) locked = locked ≡ false
IsLock (Back disk) locked = locked ≡ false

-- the disk that a store has
abbrev pub disk_of : ToldStore MemoryDisk → Option MemoryDisk
disk_of t = either t.within t.back
  where
    either : Option MemoryDisk → Option MemoryDisk → Option MemoryDisk
    either (Some disk) other = Some disk
    either None other = other

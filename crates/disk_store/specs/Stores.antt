-- What a store tells of its disk.
use Rattle.std.specs.Prelude.{◌≡◌, ◌↔◌, ℕ, List, Bool, true, false, Option, Some, None, Result, Ok, Err, bytes_eq, if◌then◌else◌}
use Rattle.tardis_io.specs.declared.faults.Failed.{Failed}
use Rattle.tardis_io.specs.Faults.{raised}

-- a store's disk: the path at which it stands; the disk itself, while it wasn't handed out, or where it was put back; whether
-- it is out; and how many times another path was asked for
pub record ToldStore (D : Type 0) : Type 0 where
  pub at : List ℕ
  pub within : Option D
  pub back : Option D
  pub out : ℕ
  pub elsewhere : ℕ

module _ {D : Type 0} where
  -- the store after it was asked for a path, and opened nothing
  abbrev pub after_asking : ToldStore D → List ℕ → ToldStore D
  after_asking t path = record {
    at = t.at;
    within = t.within;
    back = t.back;
    out = t.out;
    elsewhere = if bytes_eq path t.at then t.elsewhere else raised t.elsewhere;
  }

  -- the disk that stood within is handed out, where this is its path
  abbrev pub Hands : List ℕ → Option (ToldStore D) → Option (ToldStore D) → D → Type 0
  Hands path None None disk = Unit {0}
  Hands path (Some old) (Some new) disk =
      (path ≡ old.at) × (old.within ≡ Some disk) × (new ≡ record { at = old.at; within = None; back = old.back; out = 1; elsewhere = old.elsewhere })
  Hands path None (Some new) disk = ⊥
  Hands path (Some old) None disk = ⊥

  -- none is: its disk stands elsewhere, or was handed out before
  abbrev pub Refuses : List ℕ → Option (ToldStore D) → Option (ToldStore D) → Type 0
  Refuses path None None = Unit {0}
  Refuses path (Some old) (Some new) = (new ≡ after_asking old path) × (path ≡ old.at → old.within ≡ None)
  Refuses path None (Some new) = ⊥
  Refuses path (Some old) None = ⊥

  -- what became of a call for the disk at a path
  abbrev pub Opens : List ℕ → Option (ToldStore D) → Option (ToldStore D) → Result D Failed → Type 0
  Opens path old new (Ok disk) = Hands path old new disk
  Opens path old new (Err e) = Refuses path old new

  -- Whether a call found its disk held by somebody else: one that opened it didn't; and where the store tells its disk, one
  -- that failed did exactly where it asked for that disk while it was out.
  abbrev pub FindsHeld : List ℕ → Option (ToldStore D) → Bool → Result D Failed → Type 0
  FindsHeld path old held (Ok disk) = held ≡ false
  FindsHeld path None held (Err e) = Unit {0}
  FindsHeld path (Some t) held (Err e) = held ≡ true ↔ ((path ≡ t.at) × (t.out ≡ 1))

  -- where it is told, the disk is out
  abbrev pub IsOut : Option (ToldStore D) → Type 0
  IsOut None = Unit {0}
  IsOut (Some t) = t.out ≡ 1

  -- the disk was put back
  abbrev pub with_back : Option (ToldStore D) → D → Option (ToldStore D)
  with_back None disk = None
  with_back (Some t) disk = Some (record { at = t.at; within = t.within; back = Some disk; out = 0; elsewhere = t.elsewhere })

-- a store's count after a disk with this count was put back: it rises exactly where the disk counted a fault
abbrev pub count_after : ℕ → ℕ → ℕ
count_after ℕ.zero count = count
count_after (ℕ.suc n) count = raised count

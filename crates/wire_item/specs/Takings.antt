-- What a reader that is lent takes from the front of its bytes.
use Rattle.std.specs.Prelude.{◌≡◌, ℕ, Bool, true, false, List, Option, Some, None, Result, Ok, Err, IfOk}
use Rattle.tardis_base.specs.declared.faults.NoMemory.{NoMemory}
use Rattle.tardis_base.specs.declared.faults.ReadFault.{ReadFault}
use Rattle.tardis_base.specs.declared.faults.ReadFault.TheVariants.{Malformed, NoMemory as OutOfMemory}
use Rattle.wire_item.specs.Fronts.{Front}

-- the thing that stands at the front, and the bytes behind it are left; None where none stands there
unfoldable pub Takes : {A : Type 0} → Front A → List ℕ → Option A → List ℕ → Type 0
Takes front old None new = front old ≡ None
Takes front old (Some a) new = front old ≡ Some (a, new)

-- the same where memory may be wanting for the thing; the bytes behind it are left all the same
unfoldable pub Makes : {A : Type 0} → Front A → List ℕ → Option (Result A NoMemory) → List ℕ → Type 0
Makes front old None new = front old ≡ None
Makes {A} front old (Some result) new = (a : A) × (front old ≡ Some (a, new)) × IfOk result (λ b. b ≡ a)

-- the thing that was taken, where no bytes are left; want of memory where memory was wanting, else no thing is spelled
abbrev pub whole_of : {A : Type 0} → Option (Result A NoMemory) → Bool → Result A ReadFault
whole_of None is_done = Err Malformed
whole_of (Some result) false = Err Malformed
whole_of (Some (Ok a)) true = Ok a
whole_of (Some (Err e)) true = Err OutOfMemory

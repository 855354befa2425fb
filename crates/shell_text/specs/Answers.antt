-- What is answered for a line that is read.
use Rattle.std.specs.Prelude.{◌≡◌, ℕ, ◌≤◌, Bool, false, List, Option, Some, None, Result, Ok, Err, length, take, IfOk}
use Rattle.tardis_base.specs.declared.faults.NoMemory.{NoMemory}
use Rattle.tardis_base.specs.declared.faults.ReadFault.{ReadFault}
use Rattle.tardis_base.specs.declared.faults.ReadFault.TheVariants.{Malformed, NoMemory as OutOfMemory}
use Rattle.tardis_base.specs.declared.requests.Request.{Request}
use Rattle.wire_item.specs.Fronts.{Front}
use Rattle.wire_talk.specs.Memory.{takes_no_memory}

-- what was read, or that nothing was; memory may be wanting only for what isn't free of it
abbrev pub IsAnswerWhere : {A : Type 0} → (A → Bool) → Option A → Result A ReadFault → Type 0
IsAnswerWhere free read (Ok a) = read ≡ Some a
IsAnswerWhere free read (Err Malformed) = read ≡ None
IsAnswerWhere {A} free read (Err OutOfMemory) = (a : A) × (read ≡ Some a) × (free a ≡ false)

abbrev pub IsAnswer : Option Request → Result Request ReadFault → Type 0
IsAnswer = IsAnswerWhere takes_no_memory

-- the bytes that stand at the front are so many in the room, and this is what stands behind them
abbrev pub IsReadInto : Front (List ℕ) → List ℕ → List ℕ → Option (ℕ × List ℕ) → Type 0
IsReadInto front text room None = front text ≡ None
IsReadInto front text room (Some read) = (read.0 ≤ length room) × (front text ≡ Some (take read.0 room, read.1))

-- the things that stand at the front, where there was memory for them, and what stands behind them
abbrev pub AreRead : {A : Type 0} → Front (List A) → List ℕ → Option (Result (List A) NoMemory × List ℕ) → Type 0
AreRead front text None = front text ≡ None
AreRead {A} front text (Some read) = (xs : List A) × (front text ≡ Some (xs, read.1)) × IfOk read.0 (λ list. list ≡ xs)

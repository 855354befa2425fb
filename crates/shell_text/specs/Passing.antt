-- Whether a thing stands at the front of bytes, without making it.
use Rattle.std.specs.Prelude.{Bool, true, false, Option, Some, None, Result, Err}
use Rattle.tardis_base.specs.declared.faults.NoMemory.{NoMemory}

-- a thing that was read, and not made; or none
abbrev pub read_if : {A : Type 0} → Bool → Option (Result A NoMemory)
read_if true = Some (Err (record {}))
read_if false = None

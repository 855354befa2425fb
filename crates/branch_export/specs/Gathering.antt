-- Bytes that are gathered before they are given.
use Rattle.std.specs.Prelude.{◌≡◌, ℕ, List, [], ◌++◌, Option, Result, Ok, Err}
use Rattle.std.specs.Option.{option_map_or}
use Rattle.tardis_base.specs.declared.ids.StateId.{StateId}
use Rattle.tardis_base.specs.declared.records.Write.{Write}
use Rattle.branch_export.specs.Exports.{value_read, entry_spelling}
use Rattle.branch_export.specs.Exported.{IsFrontGiven}

-- what was given and what waits are together as before; after a fault a front of it was given
abbrev pub Moves : {E : Type 0} → List ℕ → List ℕ → List ℕ → List ℕ → Result (Unit {0}) E → Type 0
Moves before waited after waits (Ok done) = after ++ waits ≡ before ++ waited
Moves before waited after waits (Err fault) = IsFrontGiven before after waited

-- the entry of a key of which this value is read, in bytes; none where no value is
abbrev pub entry_bytes : List ℕ → Option (StateId × Write) → List ℕ
entry_bytes k o = option_map_or (λ value. entry_spelling (k, value)) (value_read o) []

-- How a load ends.
use Rattle.std.specs.Prelude.{◌≡◌, ◌≤◌, ℕ, List, ◌++◌, length}
use Rattle.tardis_io.specs.declared.statuses.Status.{Status}
use Rattle.tardis_io.specs.declared.statuses.Status.TheVariants.{Ok, WriteFault, NoMemory}

-- What was given before and after: the line; where writing failed, a front of it; where memory was wanting, nothing. There is
-- no other end.
abbrev pub WritesLine : Status → List ℕ → List ℕ → List ℕ → Type 0
WritesLine Ok line before after = after ≡ before ++ line
WritesLine WriteFault line before after = (lost : List ℕ) × ((after ++ lost ≡ before ++ line) × (length lost ≤ length line))
WritesLine NoMemory line before after = after ≡ before
WritesLine _ line before after = ⊥

abbrev pub IsLoadEnd : Status → Type 0
IsLoadEnd Ok = Unit {0}
IsLoadEnd WriteFault = Unit {0}
IsLoadEnd NoMemory = Unit {0}
IsLoadEnd _ = ⊥

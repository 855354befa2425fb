-- Bytes that a source or a sink may tell.
use Rattle.std.specs.Prelude.{◌≡◌, ℕ, ◌≤◌, List, [], ◌++◌, length, take, Option, Some, None, Result, Ok, Err}
use Rattle.tardis_io.specs.declared.faults.Failed.{Failed}

-- where bytes were told before, they are told after, and P holds of both
abbrev pub WhileTold : Option (List ℕ) → Option (List ℕ) → (List ℕ → List ℕ → Type 0) → Type 0
WhileTold None None P = Unit {0}
WhileTold (Some before) (Some after) P = P before after
WhileTold None (Some after) P = ⊥
WhileTold (Some before) None P = ⊥

-- what a take does to what is left; 0 means that nothing was left
abbrev pub Takes : List ℕ → List ℕ → Result ℕ Failed → List ℕ → Type 0
Takes before after (Ok n) buf = (before ≡ take n buf ++ after) × (n ≡ 0 → before ≡ [])
Takes before after (Err e) buf = after ≡ before

-- what a give does to what was given
abbrev pub Gives : List ℕ → List ℕ → Result ℕ Failed → List ℕ → Type 0
Gives before after (Ok n) bytes = after ≡ before ++ take n bytes
Gives before after (Err e) bytes = after ≡ before

-- what giving all of some bytes does: all were given, or at a fault a front of them
abbrev pub GivesAll : {E : Type 0} → List ℕ → List ℕ → Result Unit E → List ℕ → Type 0
GivesAll before after (Ok u) bytes = after ≡ before ++ bytes
GivesAll before after (Err e) bytes = (lost : List ℕ) × ((after ++ lost ≡ before ++ bytes) × (length lost ≤ length bytes))

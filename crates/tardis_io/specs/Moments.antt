-- Takes, as a device tells them afterwards.
use Rattle.std.specs.Prelude.{ℕ, List, [], ◌∷◌, ◌++◌, Option, Some, None}

-- what was left and what had been given when a take was made
pub record Moment : Type 0 where
  pub left : Option (List ℕ)
  pub given : Option (List ℕ)

-- where takes are told, one more, made at this moment
abbrev pub with_take : Option (List Moment) → Option (List ℕ) → Option (List ℕ) → Option (List Moment)
with_take None left given = None
with_take (Some takes) left given = Some (takes ++ (record { left = left; given = given } ∷ []))

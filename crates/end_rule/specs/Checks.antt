-- What a check of the end constraints answers.
use Rattle.std.specs.Prelude.{◌≡◌, ℕ, Option, Some, None, Result, Ok, Err}
use Rattle.tardis_base.specs.declared.ids.StateId.{StateId}
use Rattle.end_rule.specs.declared.Branches.{Branches}

-- done exactly where no constraint is broken, and else which one is, at x with n children
abbrev pub CheckedAs : StateId → Option ℕ → ℕ → Result (Unit {0}) Branches → Type 0
CheckedAs x constraint n (Ok _) = constraint ≡ None
CheckedAs x constraint n (Err e) = (constraint ≡ Some e.constraint) × (e.state ≡ x) × (e.children ≡ n)

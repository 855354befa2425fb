-- How far a list was read, in any order, while memory may be wanting.
use Rattle.std.proofs.Common.{◌≡◌, ℕ, List, Some}
use Rattle.std.specs.Prelude.{Result, IfOk}
use Rattle.tardis_base.specs.declared.faults.NoMemory.{NoMemory}
use Rattle.wire_item.specs.Fronts.{Front, times}

-- so many things were read, and the list has them where there was memory
pub record Gathered {A : Type 0} (front : Front A) (start : List ℕ) (place : ℕ) (now : List ℕ) (list : Result (List A) NoMemory) : Type 0 where
  pub xs : List A
  pub reads : times front place start ≡ Some (xs, now)
  pub made : IfOk list (λ l. l ≡ xs)

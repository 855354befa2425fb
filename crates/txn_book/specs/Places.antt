-- Places of transactions, by the numbers of their sessions.
use Rattle.std.specs.Prelude.{ℕ, List, [], ◌∷◌, Option, Some, None}

-- the entries, behind that of this number, if there is one
abbrev pub opened : {A : Type 0} → ℕ → Option A → List (ℕ × A) → List (ℕ × A)
opened n None es = es
opened n (Some a) es = (n, a) ∷ es

-- the places that aren't empty
abbrev pub open_of : {A : Type 0} → List (ℕ × Option A) → List (ℕ × A)
open_of [] = []
open_of (e ∷ es) = opened e.0 e.1 (open_of es)

-- What contracts see of a pass.
use Rattle.std.specs.Prelude.{◌≡◌, ℕ, ◌+◌, ◌<◌, ◌≤◌, List, [], ◌∷◌, ◌++◌, nat_lt, if◌then◌else◌}
use Rattle.tardis_base.specs.Plain.{Event}
use Rattle.atomic_table.specs.Seated.{TableId}

-- the lock, the entries that the pass has seen, the places of those that are its own, and its pieces
pub record Known : Type 0 where
  pub lock : TableId
  pub seen : List Event
  pub owned : List ℕ
  pub pieces : ℕ

-- the first list is a front of the second
abbrev pub Begins : List Event → List Event → Type 0
Begins xs ys = (rest : List Event) × (ys ≡ xs ++ rest)

-- places in strictly ascending order, none below a, all below n
abbrev pub Ascends : ℕ → ℕ → List ℕ → Type 0
Ascends a n [] = Unit {0}
Ascends a n (p ∷ ps) = (a ≤ p) × (p < n) × Ascends (p + 1) n ps

abbrev pub put_place : ℕ → List ℕ → List ℕ
put_place p [] = p ∷ []
put_place p (q ∷ qs) = if nat_lt p q then p ∷ q ∷ qs else q ∷ put_place p qs

-- the places of both, in order
abbrev pub merged : List ℕ → List ℕ → List ℕ
merged [] qs = qs
merged (p ∷ ps) qs = put_place p (merged ps qs)

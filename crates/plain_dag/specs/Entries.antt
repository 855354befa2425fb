-- Entries by ascending numbers.
use Rattle.std.specs.Prelude.{ℕ, Bool, true, ◌==◌, ◌&&◌, not, nat_lt, List, [], ◌∷◌, map, filter, find, Option, if◌then◌else◌}
use Rattle.std.specs.Option.{option_map}

-- the entry with this number
abbrev pub entry_of : {A : Type 0} → ℕ → List (ℕ × A) → Option A
entry_of {A} n es = option_map (λ (e : ℕ × A). e.1) (find (λ (e : ℕ × A). n == e.0) es)

-- the entries with this one in its place; it replaces that with its number
abbrev pub with_entry : {A : Type 0} → ℕ → A → List (ℕ × A) → List (ℕ × A)
with_entry n a [] = (n, a) ∷ []
with_entry n a (e ∷ es) =
    let rest = with_entry n a es in
    if nat_lt n e.0 then (n, a) ∷ e ∷ es else (if nat_lt e.0 n then e ∷ rest else (n, a) ∷ es)

-- the entries with that of this number changed
abbrev pub changed : {A : Type 0} → ℕ → (A → A) → List (ℕ × A) → List (ℕ × A)
changed {A} n f es = map (λ (e : ℕ × A). if n == e.0 then (e.0, f e.1) else e) es

-- the entries without that of this number
abbrev pub without_entry : {A : Type 0} → ℕ → List (ℕ × A) → List (ℕ × A)
without_entry {A} n es = filter (λ (e : ℕ × A). not (n == e.0)) es

-- the numbers ascend
abbrev pub have_ascending_numbers : {A : Type 0} → List (ℕ × A) → Bool
have_ascending_numbers [] = true
have_ascending_numbers (e ∷ []) = true
have_ascending_numbers (e ∷ f ∷ es) = nat_lt e.0 f.0 && have_ascending_numbers (f ∷ es)

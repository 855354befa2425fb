-- Pairs of a fork and the number of one of its branches.
use Rattle.std.specs.Prelude.{ℕ, Bool, true, ◌==◌, ◌&&◌, ◌||◌, ◌/◌, not, List, [], ◌∷◌, map, filter, nat_lt, if◌then◌else◌}
use Rattle.std.specs.List.{list_any, list_all}

-- pairs, and for how many more groups of them there is memory: so for at least so many more pairs
pub record Pairs : Type 0 where
  pub pairs : List (ℕ × ℕ)
  pub room : ℕ

-- a stands before b, by fork and then branch
abbrev pub is_pair_before : ℕ × ℕ → ℕ × ℕ → Bool
is_pair_before a b = nat_lt a.0 b.0 || a.0 == b.0 && nat_lt a.1 b.1

-- each stands before the next
abbrev pub are_ascending_pairs : List (ℕ × ℕ) → Bool
are_ascending_pairs [] = true
are_ascending_pairs (p ∷ []) = true
are_ascending_pairs (p ∷ q ∷ ps) = is_pair_before p q && are_ascending_pairs (q ∷ ps)

-- they are one pair
abbrev pub is_same_pair : ℕ × ℕ → ℕ × ℕ → Bool
is_same_pair a b = a.0 == b.0 && a.1 == b.1

-- the pair is one of these
abbrev pub has_pair : ℕ × ℕ → List (ℕ × ℕ) → Bool
has_pair p qs = list_any (is_same_pair p) qs

-- each of the second pairs is one of the first
abbrev pub has_pairs : List (ℕ × ℕ) → List (ℕ × ℕ) → Bool
has_pairs ps qs = list_all (λ q. has_pair q ps) qs

-- the pairs with this one in its place
abbrev pub with_pair : ℕ × ℕ → List (ℕ × ℕ) → List (ℕ × ℕ)
with_pair p [] = p ∷ []
with_pair p (q ∷ qs) =
    let rest = with_pair p qs in
    if is_pair_before p q then p ∷ q ∷ qs else (if is_pair_before q p then q ∷ rest else p ∷ qs)

-- the second pairs with each of the first in its place
abbrev pub with_each : List (ℕ × ℕ) → List (ℕ × ℕ) → List (ℕ × ℕ)
with_each [] qs = qs
with_each (p ∷ ps) qs = with_each ps (with_pair p qs)

-- the pairs of the other forks
abbrev pub without_pairs_of : ℕ → List (ℕ × ℕ) → List (ℕ × ℕ)
without_pairs_of fork ps = filter (λ (p : ℕ × ℕ). not (p.0 == fork)) ps

-- pairs stand in groups: of 32 forks in a row, and of two branches in a row
abbrev pub group_of : ℕ × ℕ → ℕ × ℕ
group_of p = (p.0 / 32, p.1 / 2)

-- the groups that the pairs are of, each once
unfoldable pub groups_of : List (ℕ × ℕ) → List (ℕ × ℕ)
groups_of ps = with_each (map group_of ps) []

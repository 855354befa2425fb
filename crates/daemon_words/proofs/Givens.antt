-- The values of an option.
use Rattle.std.proofs.Common.{ℕ, ◌<◌, ◌≤◌, List, [], ◌∷◌, length, Option, Some, None, ◌≡◌, refl, arith}
use Rattle.std.specs.Prelude.{filter_map}
use Rattle.daemon_words.specs.Values.{number_or_none, address_or_none}
use Rattle.daemon_words.specs.Sockets.{mode_or}
use Rattle.daemon_words.specs.Ruling.{rules_or_none}
use Rattle.command_words.specs.Values.{flag}

-- there are no more of them than times that it is given
pub fewer : (found : List (Option (List ℕ))) → length (filter_map (λ v. v) found) ≤ length found
fewer [] = omega arith
fewer (None ∷ found) = omega (arith, fewer found)
fewer (Some word ∷ found) = omega (arith, fewer found)

-- an option that is given twice says nothing
pub number_or_none_twice : (least most : ℕ) (found : List (Option (List ℕ))) → 1 < length found → None ≡ number_or_none least most found
number_or_none_twice least most [] two = absurd (omega (arith, two))
number_or_none_twice least most (v ∷ []) two = absurd (omega (arith, two))
number_or_none_twice least most (None ∷ w ∷ more) two = refl
number_or_none_twice least most (Some v ∷ w ∷ more) two = refl

pub mode_twice : (default : ℕ) (found : List (Option (List ℕ))) → 1 < length found → None ≡ mode_or default found
mode_twice default [] two = absurd (omega (arith, two))
mode_twice default (v ∷ []) two = absurd (omega (arith, two))
mode_twice default (None ∷ w ∷ more) two = refl
mode_twice default (Some v ∷ w ∷ more) two = refl

pub address_or_none_twice : (found : List (Option (List ℕ))) → 1 < length found → None ≡ address_or_none found
address_or_none_twice [] two = absurd (omega (arith, two))
address_or_none_twice (v ∷ []) two = absurd (omega (arith, two))
address_or_none_twice (None ∷ w ∷ more) two = refl
address_or_none_twice (Some v ∷ w ∷ more) two = refl

pub rules_or_none_twice : (found : List (Option (List ℕ))) → 1 < length found → None ≡ rules_or_none found
rules_or_none_twice [] two = absurd (omega (arith, two))
rules_or_none_twice (v ∷ []) two = absurd (omega (arith, two))
rules_or_none_twice (None ∷ w ∷ more) two = refl
rules_or_none_twice (Some v ∷ w ∷ more) two = refl

pub flag_twice : (found : List (Option (List ℕ))) → 1 < length found → None ≡ flag found
flag_twice [] two = absurd (omega (arith, two))
flag_twice (v ∷ []) two = absurd (omega (arith, two))
flag_twice (None ∷ w ∷ more) two = refl
flag_twice (Some v ∷ w ∷ more) two = refl

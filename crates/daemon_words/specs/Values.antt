-- The values of options that may be left out, or stand only beside others.
use Rattle.std.specs.Prelude.{ℕ, Bool, ◌==◌, ◌||◌, length, List, [], ◌∷◌, Option, None, Some, option_map}
use Rattle.command_words.specs.Values.{needed, address}

-- the number of an option that may be left out, where there is one
abbrev pub number_or_none : ℕ → ℕ → List (Option (List ℕ)) → Option (Option ℕ)
number_or_none least most [] = Some None
number_or_none least most (value ∷ more) = option_map (λ n. Some n) (needed least most (value ∷ more))

-- an option that speaks of something stands only where that is there
abbrev pub may_stand : Bool → List (Option (List ℕ)) → Bool
may_stand there found = there || (length found == 0)

-- the address of an option that may be left out
abbrev pub address_or_none : List (Option (List ℕ)) → Option (Option (List ℕ))
address_or_none [] = Some None
address_or_none (value ∷ more) = option_map (λ word. Some word) (address (value ∷ more))

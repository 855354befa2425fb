-- The options behind the word of a command.
use Rattle.std.specs.Prelude.{ℕ, Bool, true, false, ◌||◌, List, [], ◌∷◌, Option, None, Some, codes, bytes_eq, filter, map}
use Rattle.std.specs.List.{list_all, list_any}

-- an option's name, and the word behind it that is its value
abbrev pub Setting : Type 0
Setting = List ℕ × Option (List ℕ)

-- the names of the options that have no value
abbrev pub is_flag : List ℕ → Bool
is_flag name = bytes_eq name (codes "--tidy") || bytes_eq name (codes "--keep-history")

-- Words are options: `--tidy` and `--keep-history` are each one by itself, and any other word is one with the word behind it.
abbrev pub settings : List (List ℕ) → List Setting
settings [] = []
settings (name ∷ []) = (name, None) ∷ []
settings (name ∷ value ∷ rest) = elim (is_flag name) [ true ↦ (name, None) ∷ settings (value ∷ rest) | false ↦ (name, Some value) ∷ settings rest ]

-- the values of the options with this name, in order
abbrev pub values : List ℕ → List Setting → List (Option (List ℕ))
values name found = map (λ s. s.1) (filter (λ s. bytes_eq s.0 name) found)

-- each option has one of these names
abbrev pub are_only : List (List ℕ) → List Setting → Bool
are_only names found = list_all (λ s. list_any (λ name. bytes_eq s.0 name) names) found

-- The first option of some words.
use Rattle.std.specs.Prelude.{◌≡◌, ◌<◌, ℕ, List, [], ◌∷◌, Option, None, Some, length, map, option_map}
use Rattle.std.specs.String.{string_bytes}
use Rattle.command_words.specs.declared.settings.Split.{Split}
use Rattle.command_words.specs.Settings.{settings}

-- the answer is the first option and the words behind it
abbrev pub IsSplit : List (List ℕ) → Option Split → Type 0
IsSplit words None = settings words ≡ []
IsSplit words (Some split) =
    (settings words ≡ (split.name.now, option_map (λ v. v.now) split.value) ∷ settings (map (λ w. string_bytes w) split.rest.now))
    × (length split.rest.now < length words)

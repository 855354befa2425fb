-- How often an option is given, and its value.
use Rattle.std.specs.Prelude.{◌≡◌, ◌<◌, ℕ, List, [], ◌∷◌, Option, None, Some, length}
use Rattle.command_words.specs.declared.settings.Given.{Given}
use Rattle.command_words.specs.declared.settings.Given.TheVariants.{Absent, Bare, Value, Twice}

-- these are the values that an answer tells
abbrev pub IsGiven : List (Option (List ℕ)) → Given → Type 0
IsGiven found Absent = found ≡ []
IsGiven found Bare = found ≡ None ∷ []
IsGiven found (Value word) = found ≡ Some word.now ∷ []
IsGiven found Twice = 1 < length found

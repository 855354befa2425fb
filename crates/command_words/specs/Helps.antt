-- The words that ask for help.
use Rattle.std.specs.Prelude.{◌≡◌, ℕ, List, [], ◌∷◌, codes}

-- the bytes of the words are those of the one word `--help`
abbrev pub AskUsage : List (List ℕ) → Type 0
AskUsage words = words ≡ codes "--help" ∷ []

-- the bytes of the words are those of the one word `--version`
abbrev pub AskVersion : List (List ℕ) → Type 0
AskVersion words = words ≡ codes "--version" ∷ []

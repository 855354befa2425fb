-- The words that ask the server for help.
use Rattle.std.specs.Prelude.{◌≡◌, ◌⊎◌, ℕ, List, [], ◌∷◌, codes}
use Rattle.command_words.specs.Helps.{AskUsage}

-- the bytes of the words are those of one word by which `tardisd` is asked how it is used: `--help`, `-h` or `help`
abbrev pub AskDaemonUsage : List (List ℕ) → Type 0
AskDaemonUsage words = AskUsage words ⊎ (words ≡ codes "-h" ∷ []) ⊎ (words ≡ codes "help" ∷ [])

-- The words that ask for nothing, and how a text is told.
use Rattle.std.specs.Prelude.{◌≡◌, ℕ, ◌≤◌, List, ◌++◌, length}
use Rattle.command_words.specs.Helps.{AskUsage, AskVersion}
use Rattle.tardis_io.specs.declared.statuses.Status.{Status}
use Rattle.tardis_io.specs.declared.statuses.Status.TheVariants.{Ok}
use Rattle.tardis_main.specs.Words.{AreUnknown}

-- the words are neither a command that is carried out nor ask for help
abbrev pub AreNone : List (List ℕ) → Type 0
AreNone words = AreUnknown words × (AskUsage words → ⊥) × (AskVersion words → ⊥)

-- with ok all of the text was written, else a front of it
abbrev pub Tells : List ℕ → Status → List ℕ → List ℕ → Type 0
Tells text Ok before after = after ≡ before ++ text
Tells text _ before after = (lost : List ℕ) × ((after ++ lost ≡ before ++ text) × (length lost ≤ length text))

-- How long the line at the front is.
use Rattle.std.specs.Prelude.{◌≡◌, ℕ, ◌+◌, ◌<◌, List, ◌++◌, length, take, drop}
use Rattle.line_cut.specs.declared.feeds.Size.{Size}
use Rattle.line_cut.specs.declared.feeds.Size.TheVariants.{Ended, Less, TooLong}
use Rattle.line_cut.specs.Lines.{ended, IsLine, IsLong}

-- how long the line at the front is that a line feed ends, or that none ends it, or that it is too long
abbrev pub IsSize : List ℕ → Size → Type 0
IsSize bytes (Ended count) = IsLine (take count bytes) × (count < length bytes) × (bytes ≡ ended (take count bytes) ++ drop (count + 1) bytes)
IsSize bytes Less = IsLine bytes
IsSize bytes TooLong = IsLong bytes

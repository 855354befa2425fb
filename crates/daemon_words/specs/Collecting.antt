-- Whether a server collects, by its words.
use Rattle.std.specs.Prelude.{Bool, not, ◌&&◌, List, Option, Some, None, codes, option_and_then, if◌then◌else◌}
use Rattle.command_words.specs.Settings.{Setting}
use Rattle.command_words.specs.Values.{flag}
use Rattle.command_words.specs.Forms.{of}

-- it collects unless it is to keep its history; it can't be told both
abbrev pub either_of : (tidy keep : Bool) → Option Bool
either_of tidy keep = if tidy && keep then None else Some (not keep)

-- `--tidy`, or `--keep-history`, or neither
abbrev pub collects : List Setting → Option Bool
collects found = option_and_then (λ tidy. option_and_then (either_of tidy) (flag (of found (codes "--keep-history")))) (flag (of found (codes "--tidy")))

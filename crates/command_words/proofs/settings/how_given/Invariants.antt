use Rattle.std.proofs.Common.{◌≡◌, ◌++◌, ℕ, List, length, map}
use Rattle.std.specs.Prelude.{Option}
use Rattle.std.specs.String.{string_bytes}
use Rattle.command_words.specs.Settings.{settings, values}
use Rattle.command_words.specs.Given.{IsGiven}
use Rattle.command_words.proofs.settings.how_given.Given as goal

abbrev pub invariant-loop-first : goal.invariant-loop-first
invariant-loop-first l =
    (done : List (Option (List ℕ))) × (IsGiven done l.found × (values l.name (settings (map (λ w. string_bytes w) l.words)) ≡ done
    ++ values l.name (settings (map (λ w. string_bytes w) l.left))))

abbrev pub decreases-loop-first : goal.decreases-loop-first
decreases-loop-first l = length l.left

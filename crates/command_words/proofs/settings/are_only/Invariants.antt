use Rattle.std.proofs.Common.{◌≡◌, length, map}
use Rattle.std.specs.String.{string_bytes}
use Rattle.command_words.specs.Settings.{settings, are_only}
use Rattle.command_words.proofs.settings.are_only.Given as goal

abbrev pub invariant-loop-first : goal.invariant-loop-first
invariant-loop-first l =
    are_only (map (λ n. n.now) l.names) (settings (map (λ w. string_bytes w) l.left))
    ≡ are_only (map (λ n. n.now) l.names) (settings (map (λ w. string_bytes w) l.words))

abbrev pub decreases-loop-first : goal.decreases-loop-first
decreases-loop-first l = length l.left

use Rattle.std.proofs.Common.{◌≡◌, ◌+◌, ◌≤◌, length, map}
use Rattle.std.specs.String.{string_bytes}
use Rattle.command_words.specs.Settings.{settings, values}
use Rattle.command_words.proofs.peers.count_of.Given as goal

abbrev pub invariant-loop-first : goal.invariant-loop-first
invariant-loop-first l =
    (l.count + length (values l.name (settings (map (λ w. string_bytes w) l.left))) ≡ length (values l.name (settings (map (λ w. string_bytes w) l.words))))
    × (l.count + length l.left ≤ length l.words)

abbrev pub decreases-loop-first : goal.decreases-loop-first
decreases-loop-first l = length l.left

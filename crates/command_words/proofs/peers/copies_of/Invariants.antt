use Rattle.std.proofs.Common.{◌≡◌, ◌++◌, length, map}
use Rattle.std.specs.Prelude.{filter_map}
use Rattle.std.specs.String.{string_bytes}
use Rattle.command_words.specs.Settings.{settings, values}
use Rattle.command_words.proofs.peers.copies_of.Given as goal

abbrev pub invariant-loop-first : goal.invariant-loop-first
invariant-loop-first l =
    map (λ w. string_bytes w) l.copies.items ++ filter_map (λ v. v) (values l.name (settings (map (λ w. string_bytes w) l.left)))
    ≡ filter_map (λ v. v) (values l.name (settings (map (λ w. string_bytes w) l.words)))

abbrev pub decreases-loop-first : goal.decreases-loop-first
decreases-loop-first l = length l.left

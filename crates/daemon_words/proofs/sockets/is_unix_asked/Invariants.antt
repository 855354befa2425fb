use Rattle.std.proofs.Common.{◌≡◌, length, map}
use Rattle.std.specs.String.{string_bytes}
use Rattle.command_words.specs.Settings.{settings}
use Rattle.daemon_words.specs.Sockets.{is_unix_asked}
use Rattle.daemon_words.proofs.sockets.is_unix_asked.Given as goal

abbrev pub invariant-loop-first : goal.invariant-loop-first
invariant-loop-first l =
    is_unix_asked (settings (map (λ w. string_bytes w) l.left)) ≡ is_unix_asked (settings (map (λ w. string_bytes w) l.words))

abbrev pub decreases-loop-first : goal.decreases-loop-first
decreases-loop-first l = length l.left

use Rattle.std.proofs.Common.{◌≡◌, ◌++◌, length, map}
use Rattle.std.specs.String.{string_bytes}
use Rattle.command_words.specs.Settings.{settings}
use Rattle.daemon_words.specs.Fetching.{peer_addresses}
use Rattle.daemon_words.proofs.fetching.peers_of.Given as goal

abbrev pub invariant-loop-first : goal.invariant-loop-first
invariant-loop-first l =
    map (λ word. word.now) l.peers.items ++ peer_addresses (settings (map (λ w. string_bytes w) l.left))
    ≡ peer_addresses (settings (map (λ w. string_bytes w) l.words))

abbrev pub decreases-loop-first : goal.decreases-loop-first
decreases-loop-first l = length l.left

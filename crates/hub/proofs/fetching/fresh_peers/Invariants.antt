use Rattle.std.proofs.Common.{◌≡◌, ◌*◌, ◌<◌, ℕ, length, slice_get, Some}
use Rattle.site_peers.specs.Moves.{fresh}
use Rattle.hub.proofs.fetching.fresh_peers.Given as goal

abbrev pub invariant-loop : goal.invariant-loop
invariant-loop l = record {
  many : length l.peers.items ≡ l.counter;
  fresh : (n : ℕ) → n < length l.peers.items → slice_get l.peers.items n ≡ Some (fresh (1000 * l.fn.scope.seconds));
}

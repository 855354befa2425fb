-- Laws of the peers of runs.
use Rattle.std.specs.Prelude.{ℕ, ◌≤◌, List, [], ◌∷◌, length}
use Rattle.site_peers.specs.declared.peers.Peer.{Peer}
use Rattle.site_peers.specs.Moves.{most_a_turn}
use Rattle.site_peers.specs.Runs.{exchanges, Fit}
use Rattle.hub.specs.declared.ports.Scope.{Scope}
use Rattle.hub.specs.Turns.{Turn, PeerDid, turns_of, IsPeer, ArePeers}
use Rattle.hub.specs.Runs.{AreServed}

-- no more than 64 requests are asked for a peer, so that those who wait for the next turn wait for no more
abbrev pub IsShort : Turn → Type 0
IsShort (PeerDid peer offered t) = length t.bodies ≤ most_a_turn
IsShort _ = Unit {0}

abbrev pub AreShort : List Turn → Type 0
AreShort [] = Unit {0}
AreShort (turn ∷ older) = IsShort turn × AreShort older

-- whatever the turns of a run were, each is short
abbrev pub PeersAreFair : Type 0
PeersAreFair = (scope : Scope) (turns : List Turn) → AreServed scope turns → ArePeers scope turns → AreShort turns

-- the exchanges with each peer of a run are one after another: each was asked by the counts that were told when it began, and
-- the items of its answer were delivered in order and each once, unless something failed
abbrev pub FetchesAreWhole : Type 0
FetchesAreWhole = (scope : Scope) (turns : List Turn) (n : ℕ) (p : Peer) → IsPeer scope turns n p → Fit p.moment (exchanges (turns_of n turns))

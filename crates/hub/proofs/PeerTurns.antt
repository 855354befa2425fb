-- Laws of the peers of runs.
use Rattle.std.proofs.Common.{ℕ, ◌≤◌, Bool, true, false, List, [], ◌∷◌, length, refl, subst}
use Rattle.std.specs.Prelude.{◌*◌, ◌==◌}
use Rattle.std.proofs.lemmas.Bool.{eq-eqb}
use Rattle.site_peers.specs.declared.peers.Peer.{Peer}
use Rattle.site_peers.specs.Runs.{PeerTurn, Went, TurnsAreShort, ExchangesAreWhole}
use Rattle.hub.specs.declared.ports.Scope.{Scope}
use Rattle.hub.specs.Turns.{Turn, Rested, Opened, Missed, TurnedAway, Received, Sent, Ended, KeptUp, Settled, PeerDid, its_own, turns_of, IsPeer, ArePeers}
use Rattle.hub.specs.Runs.{AreServed}
use Rattle.hub.specs.PeerLaws.{IsShort, PeersAreFair, FetchesAreWhole}

-- a peer as it was before the newest turn
was_led : (every : ℕ) (b : Bool) (t : PeerTurn) (older : List PeerTurn) (p : Peer) → Went every (its_own b t older) p → (q : Peer) × Went every older q
was_led every true t older p went = (went.0, went.1)
was_led every false t older p went = (p, went)

was_peer : (scope : Scope) (n : ℕ) (turn : Turn) (older : List Turn) (p : Peer) → IsPeer scope (turn ∷ older) n p → (q : Peer) × IsPeer scope older n q
was_peer scope n (PeerDid peer offered t) older p is =
    let led = was_led (1000 * scope.seconds) (n == peer) t (turns_of n older) p is.went in
    (led.0, record { is_one = is.is_one; went = led.1 })
was_peer scope n (Rested offer) older p is = (p, record { is_one = is.is_one; went = is.went })
was_peer scope n (Opened slot door) older p is = (p, record { is_one = is.is_one; went = is.went })
was_peer scope n (Missed slot) older p is = (p, record { is_one = is.is_one; went = is.went })
was_peer scope n TurnedAway older p is = (p, record { is_one = is.is_one; went = is.went })
was_peer scope n (Received slot room came bodies replies) older p is = (p, record { is_one = is.is_one; went = is.went })
was_peer scope n (Sent slot offered wrote bodies replies) older p is = (p, record { is_one = is.is_one; went = is.went })
was_peer scope n (Ended slot) older p is = (p, record { is_one = is.is_one; went = is.went })
was_peer scope n (KeptUp bodies replies) older p is = (p, record { is_one = is.is_one; went = is.went })
was_peer scope n Settled older p is = (p, record { is_one = is.is_one; went = is.went })

-- the newest turn is short
its_turn : TurnsAreShort → (every n : ℕ) (t : PeerTurn) (older : List PeerTurn) (p : Peer) → Went every (its_own (n == n) t older) p → length t.bodies ≤ 64
its_turn short every n t older p went =
    let own : Went every (t ∷ older) p = subst (λ b. Went every (its_own b t older) p) (eq-eqb n n refl) went in
    short own.0 p t own.2

newest : TurnsAreShort → (scope : Scope) (turn : Turn) (older : List Turn) → AreServed scope (turn ∷ older) → ArePeers scope (turn ∷ older) → IsShort turn
newest short scope (PeerDid peer offered t) older served peers =
    let is = peers peer served.0.1.is_one in
    its_turn short (1000 * scope.seconds) peer t (turns_of peer older) is.0 is.1.went
newest short scope (Rested offer) older served peers = tt
newest short scope (Opened slot door) older served peers = tt
newest short scope (Missed slot) older served peers = tt
newest short scope TurnedAway older served peers = tt
newest short scope (Received slot room came bodies replies) older served peers = tt
newest short scope (Sent slot offered wrote bodies replies) older served peers = tt
newest short scope (Ended slot) older served peers = tt
newest short scope (KeptUp bodies replies) older served peers = tt
newest short scope Settled older served peers = tt

pub are_fair : TurnsAreShort → PeersAreFair
are_fair short scope [] served peers = tt
are_fair short scope (turn ∷ older) served peers = (
  newest short scope turn older served peers,
  are_fair short scope older served.1.1 (λ n within. let is = peers n within in was_peer scope n turn older is.0 is.1),
)

pub are_whole : ExchangesAreWhole → FetchesAreWhole
are_whole whole scope turns n p is = whole (1000 * scope.seconds) (turns_of n turns) p is.went

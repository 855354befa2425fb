-- The turns of a hub: what the edge offered, and what was done of it.
use Rattle.std.specs.Prelude.{◌≡◌, ℕ, ◌*◌, ◌<◌, ◌≤◌, ◌==◌, Bool, true, false, List, [], ◌∷◌, ◌++◌, length, Option, Some, None, IsSome, ◌⊎◌}
use Rattle.tardis_base.specs.Sizes.{piece}
use Rattle.frame_cut.specs.Frames.{IsLong}
use Rattle.hub.specs.declared.ports.Ready.{Ready}
use Rattle.hub.specs.declared.ports.Ready.TheVariants.{Accept, Read, Write, Close, Peer as OfPeer, Stop}
use Rattle.hub.specs.declared.ports.Seen.{Seen}
use Rattle.hub.specs.declared.ports.Seen.TheVariants.{Offered, Accepted, Declined, ReadFrom, WroteTo, Closed}
use Rattle.hub.specs.declared.ports.Scope.{Scope}
use Rattle.hub.specs.Telling.{own_replies}
use Rattle.hub.specs.Talks.{Talk, no_talk, more_talk, held, waits}
use Rattle.hub.specs.Peers.{offer_of, moved, carried_out, MayTell, HasNothingFor}
use Rattle.site_peers.specs.declared.peers.Peer.{Peer}
use Rattle.site_peers.specs.Runs.{PeerTurn, Went}

-- Nothing was done of what was offered; a connection came into a slot through a door, or none came after all, or it was turned away for
-- want of memory; bytes came of one, or a front of what waits was written to it, and requests were answered by these
-- replies; or it ended, and its session was closed. Or the hub itself asked requests, and they were answered by these
-- replies; or what was answered before was settled, so that bytes could be written. Or a peer had a turn; where bytes were to
-- move so much room was offered for them, or so many.
pub data Turn : Type 0 where
  Rested : (offer : Ready) → Turn
  Opened : (slot door : ℕ) → Turn
  Missed : (slot : ℕ) → Turn
  TurnedAway : Turn
  Received : (slot room : ℕ) → (came : List ℕ) → (bodies replies : List (List ℕ)) → Turn
  Sent : (slot offered : ℕ) → (wrote : List ℕ) → (bodies replies : List (List ℕ)) → Turn
  Ended : (slot : ℕ) → Turn
  KeptUp : (bodies replies : List (List ℕ)) → Turn
  Settled : Turn
  PeerDid : (peer offered : ℕ) → PeerTurn → Turn

-- what the edge sees of a turn: its offer, and the call that was made; of what the hub asks itself the replies; nothing of what it settles
abbrev pub calls_of : Turn → List Seen
calls_of (Rested offer) = Offered offer ∷ []
calls_of (Opened slot door) = Offered Accept ∷ Accepted slot (Some door) ∷ []
calls_of (Missed slot) = Offered Accept ∷ Accepted slot None ∷ []
calls_of TurnedAway = Offered Accept ∷ Declined ∷ []
calls_of (Received slot room came bodies replies) = Offered (Read slot) ∷ ReadFrom slot room came ∷ []
calls_of (Sent slot offered wrote bodies replies) = Offered (Write slot) ∷ WroteTo slot offered wrote ∷ []
calls_of (Ended slot) = Offered (Close slot) ∷ Closed slot ∷ []
calls_of (KeptUp bodies replies) = own_replies replies
calls_of Settled = []
calls_of (PeerDid peer offered t) = Offered (OfPeer peer t.now (offer_of t.news)) ∷ moved peer offered t.news ++ carried_out peer t.deed

-- what it sees of turns, of which the newest is first
abbrev pub calls_in : List Turn → List Seen
calls_in [] = []
calls_in (turn ∷ older) = calls_in older ++ calls_of turn

-- in its own slot a turn changes the connection's part
abbrev pub there : Bool → Option Talk → Option Talk → Option Talk
there true here old = here
there false here old = old

abbrev pub more_of : Option Talk → List ℕ → List ℕ → List (List ℕ) → List (List ℕ) → Option Talk
more_of None came wrote bodies replies = None
more_of (Some t) came wrote bodies replies = Some (more_talk t came wrote bodies replies)

-- what the connection in slot n has after a turn
abbrev pub talk_after : ℕ → Turn → Option Talk → Option Talk
talk_after n (Rested offer) old = old
talk_after n (Opened slot door) old = there (n == slot) (Some (no_talk door)) old
talk_after n (Missed slot) old = old
talk_after n TurnedAway old = old
talk_after n (Received slot room came bodies replies) old = there (n == slot) (more_of old came [] bodies replies) old
talk_after n (Sent slot offered wrote bodies replies) old = there (n == slot) (more_of old [] wrote bodies replies) old
talk_after n (Ended slot) old = there (n == slot) None old
talk_after n (KeptUp bodies replies) old = old
talk_after n Settled old = old
talk_after n (PeerDid peer offered t) old = old

-- what the connection that has slot n has of the turns, since it came
abbrev pub talk : ℕ → List Turn → Option Talk
talk n [] = None
talk n (turn ∷ older) = talk_after n turn (talk n older)

-- what peer n had of a turn, behind what it had before
abbrev pub its_own : Bool → PeerTurn → List PeerTurn → List PeerTurn
its_own true t old = t ∷ old
its_own false t old = old

abbrev pub turns_after : ℕ → Turn → List PeerTurn → List PeerTurn
turns_after n (PeerDid peer offered t) old = its_own (n == peer) t old
turns_after n _ old = old

-- the turns of peer n among these
abbrev pub turns_of : ℕ → List Turn → List PeerTurn
turns_of n [] = []
turns_of n (turn ∷ older) = turns_after n turn (turns_of n older)

-- the peer of this number, as its turns led to it
pub record IsPeer (scope : Scope) (older : List Turn) (n : ℕ) (p : Peer) : Type 0 where
  pub is_one : n < scope.peers
  pub went : Went (1000 * scope.seconds) (turns_of n older) p

-- each peer, as its turns led to it
abbrev pub ArePeers : Scope → List Turn → Type 0
ArePeers scope turns = (n : ℕ) → n < scope.peers → (p : Peer) × IsPeer scope turns n p

-- no more is read of a connection: much waits, or the frame that is next is too long
abbrev pub IsShut : Option Talk → Type 0
IsShut None = Unit {0}
IsShut (Some t) = (piece < length (waits t)) ⊎ ((len : ℕ) × IsLong (held t) len)

abbrev pub HasNothing : Option Talk → Type 0
HasNothing None = Unit {0}
HasNothing (Some t) = waits t ≡ []

abbrev pub HasSome : Option Talk → Type 0
HasSome None = ⊥
HasSome (Some t) = 0 < length (waits t)

-- nothing may be done of an offer only where there is nothing to do, or no such peer
abbrev pub MayRest : Scope → List Turn → Ready → Type 0
MayRest scope older Accept = (n : ℕ) → n < scope.connections → IsSome (talk n older)
MayRest scope older (Read n) = IsShut (talk n older)
MayRest scope older (Write n) = HasNothing (talk n older)
MayRest scope older (Close n) = talk n older ≡ None
MayRest scope older (OfPeer n now news) = (scope.peers ≤ n) ⊎ ((p : Peer) × IsPeer scope older n p × HasNothingFor p news)
MayRest scope older Stop = ⊥

-- the bytes that wait there are few, or so many
abbrev pub WaitFew : Option Talk → Type 0
WaitFew None = ⊥
WaitFew (Some t) = length (waits t) ≤ piece

abbrev pub WaitSoMany : Option Talk → ℕ → Type 0
WaitSoMany None offered = ⊥
WaitSoMany (Some t) offered = offered ≡ length (waits t)

-- some slot has no connection, of as many as there are
abbrev pub HasFreeSlot : Scope → List Turn → Type 0
HasFreeSlot scope older = (n : ℕ) × (n < scope.connections) × (talk n older ≡ None)

-- The right turn after older ones. A connection is turned away only while a slot is free, and else it waits. A read offers room for 65,536 bytes, and a write all that waits. When the hub asks
-- requests itself is said by `AreTimely`.
abbrev pub IsRight : Scope → List Turn → Turn → Type 0
IsRight scope older (Rested offer) = MayRest scope older offer
IsRight scope older (Opened slot door) = (slot < scope.connections) × (talk slot older ≡ None)
IsRight scope older (Missed slot) = (slot < scope.connections) × (talk slot older ≡ None)
IsRight scope older TurnedAway = HasFreeSlot scope older
IsRight scope older (Received slot room came bodies replies) = WaitFew (talk slot older) × (room ≡ piece)
IsRight scope older (Sent slot offered wrote bodies replies) = WaitSoMany (talk slot older) offered
IsRight scope older (Ended slot) = IsSome (talk slot older)
IsRight scope older (KeptUp bodies replies) = Unit {0}
IsRight scope older Settled = Unit {0}
IsRight scope older (PeerDid peer offered t) = (p : Peer) × IsPeer scope older peer p × MayTell p offered t.news

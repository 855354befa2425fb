-- What a turn of a peer is: what the edge offered, what it sees, and what was asked of the machine.
use Rattle.std.specs.Prelude.{◌≡◌, ℕ, ◌<◌, Bool, true, false, List, [], ◌∷◌, length}
use Rattle.tardis_base.specs.Sizes.{piece}
use Rattle.tardis_base.specs.Plain.{PlainMachine, Answers}
use Rattle.site_peers.specs.declared.peers.Peer.{Peer}
use Rattle.site_peers.specs.declared.deeds.Failure.{Failure}
use Rattle.site_peers.specs.declared.deeds.Deed.{Deed}
use Rattle.site_peers.specs.declared.deeds.Deed.TheVariants.{Stay, Call, Close, Fail}
use Rattle.site_peers.specs.Moves.{News, Time, Through, Over, Came, Sent, Moves, waiting, listens}
use Rattle.hub.specs.declared.ports.PeerNews.{PeerNews}
use Rattle.hub.specs.declared.ports.PeerNews.TheVariants.{Time as TheTime, Through as ItIsThrough, Over as ItIsOver, Read as MayRead, Write as MayWrite}
use Rattle.hub.specs.declared.ports.Seen.{Seen}
use Rattle.hub.specs.declared.ports.Seen.TheVariants.{CalledPeer, ClosedPeer, ReadFromPeer, WroteToPeer, ToldFailure}
use Rattle.hub.specs.Upkeeps.{TallyState, noted}
use Rattle.hub.specs.Answering.{asks}

-- what the edge offered, where the peer was told this
abbrev pub offer_of : News → PeerNews
offer_of Time = TheTime
offer_of Through = ItIsThrough
offer_of Over = ItIsOver
offer_of (Came bytes) = MayRead
offer_of (Sent bytes) = MayWrite

-- The call by which bytes moved; so much room was offered, or so many bytes.
abbrev pub moved : (peer offered : ℕ) → News → List Seen
moved peer offered (Came bytes) = ReadFromPeer peer offered bytes ∷ []
moved peer offered (Sent bytes) = WroteToPeer peer offered bytes ∷ []
moved peer offered _ = []

abbrev pub told_of : (peer : ℕ) → Failure → (told : Bool) → List Seen
told_of peer why true = ToldFailure peer why ∷ []
told_of peer why false = []

-- the calls that carry out what the peer asks
abbrev pub carried_out : (peer : ℕ) → Deed → List Seen
carried_out peer Stay = []
carried_out peer Call = CalledPeer peer ∷ []
carried_out peer Close = ClosedPeer peer ∷ []
carried_out peer (Fail why told) = ClosedPeer peer ∷ told_of peer why told

-- A peer is read of only where it listens, into room for 65,536 bytes; and it is offered all that waits, if anything does.
abbrev pub MayTell : Peer → (offered : ℕ) → News → Type 0
MayTell p offered (Came bytes) = (listens p.moment ≡ true) × (offered ≡ piece)
MayTell p offered (Sent bytes) = (0 < length (waiting p.moment)) × (offered ≡ length (waiting p.moment))
MayTell p offered _ = offered ≡ 0

-- of such an offer nothing may be done: the peer isn't read of, or nothing waits
abbrev pub HasNothingFor : Peer → PeerNews → Type 0
HasNothingFor p MayRead = listens p.moment ≡ false
HasNothingFor p MayWrite = waiting p.moment ≡ []
HasNothingFor p _ = ⊥

-- From s these replies answer these requests of actor 0, they are counted, and the value stands for the last state.
pub record AnsweredFor {S : Type 0} (m : PlainMachine S) (to : S → Type 0) (bodies replies : List (List ℕ)) (tally next : TallyState) (s : S) : Type 0 where
  pub state : S
  pub answers : Answers m s (asks 0 bodies) replies state
  pub stands : to state
  pub counts : next ≡ noted tally replies

-- The peer p was told this at this time, and became q; what it asked of the machine was answered and counted.
pub record Asks {S : Type 0} (m : PlainMachine S) (from to : S → Type 0) (p : Peer) (news : News) (now : ℕ) (deed : Deed) (q : Peer) (tally next : TallyState) : Type 0 where
  pub bodies : List (List ℕ)
  pub replies : List (List ℕ)
  pub answered : (s : S) → from s → AnsweredFor m to bodies replies tally next s
  pub moves : Moves p now bodies replies deed q news

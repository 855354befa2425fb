-- A run and the connections that it led to.
use Rattle.std.specs.Prelude.{◌≡◌, ◌≢◌, ℕ, ◌*◌, ◌<◌, ◌++◌, List, [], ◌∷◌, length, slice_get, Option, Some, None, IfSome, ◌⊎◌}
use Rattle.frame_cut.specs.Frames.{frames, Cuts}
use Rattle.site_peers.specs.declared.peers.Peer.{Peer}
use Rattle.site_peers.specs.Moves.{waiting}
use Rattle.site_peers.specs.Runs.{Went}
use Rattle.hub.specs.declared.ports.Scope.{Scope}
use Rattle.hub.specs.declared.ports.PeerNews.{PeerNews}
use Rattle.hub.specs.declared.ports.PeerNews.TheVariants.{Write as MayWrite}
use Rattle.hub.specs.declared.ports.Ready.{Ready}
use Rattle.hub.specs.declared.ports.Ready.TheVariants.{Write, Peer as OfPeer}
use Rattle.hub.specs.declared.ports.Seen.{Seen}
use Rattle.hub.specs.declared.ports.Seen.TheVariants.{Offered}
use Rattle.hub.specs.Connections.{ConnectionState, connection_at, IsStopped}
use Rattle.hub.specs.Settlings.{PlainSettling}
use Rattle.hub.specs.Telling.{Tells}
use Rattle.hub.specs.Talks.{Talk}
use Rattle.hub.specs.Upkeeps.{UpkeepRule, TallyState, noted}
use Rattle.hub.specs.Turns.{Turn, Received, Sent, KeptUp, Settled, PeerDid, talk, turns_of, calls_of, calls_in}
use Rattle.hub.specs.Timing.{heard, tally_of, AreTimely}
use Rattle.hub.specs.Runs.{Ran, AreServed, count_of}

-- the connection of a talk has its door, and holds what came and wasn't asked yet, and what waits
pub record IsConnectionOf (t : Talk) (l : ConnectionState) : Type 0 where
  pub door : l.door ≡ t.door
  pub cut : Cuts t.came t.bodies l.cutter
  pub given : t.wrote ++ l.waiting ≡ frames t.replies
  pub stopped : IsStopped l.long l.cutter l.waiting

abbrev pub Fits : Option Talk → Option ConnectionState → Type 0
Fits None None = Unit {0}
Fits (Some t) (Some l) = IsConnectionOf t l
Fits None (Some l) = ⊥
Fits (Some t) None = ⊥

-- from s the turns led to a state that the value stands for, to these connections, and to these peers
pub record Keeps {S : Type 0} (w : PlainSettling S) (scope : Scope) (to : S → Type 0) (s : S) (connections : List (Option ConnectionState)) (peers : List Peer)
    (turns : List Turn) : Type 0 where
  pub state : S
  pub ran : Ran w s turns state
  pub stands : to state
  pub served : AreServed scope turns
  pub fits : (n : ℕ) → Fits (talk n turns) (connection_at connections n)
  pub slots : length connections ≡ scope.connections
  pub many : length peers ≡ scope.peers
  pub went : (n : ℕ) → IfSome (slice_get peers n) (Went (1000 * scope.seconds) (turns_of n turns))

-- a turn of the edge, of which just the replies to connections and those for peers are counted
abbrev pub IsNoted : TallyState → TallyState → Turn → Type 0
IsNoted tally next (Received slot room came bodies replies) = next ≡ noted tally replies
IsNoted tally next (Sent slot offered wrote bodies replies) = next ≡ noted tally replies
IsNoted tally next (PeerDid peer offered t) = next ≡ noted tally t.replies
IsNoted tally next (KeptUp bodies replies) = ⊥
IsNoted tally next Settled = ⊥
IsNoted tally next _ = next ≡ tally

-- and before that it told the time
abbrev pub IsHeard : TallyState → TallyState → Turn → Type 0
IsHeard tally next turn = IsNoted (heard tally turn) next turn

-- from s nothing was owed, or what was owed was settled; and the value stands for the state that was reached
pub record Settles {S : Type 0} (w : PlainSettling S) (to : S → Type 0) (s : S) : Type 0 where
  pub state : S
  pub same : (state ≡ s) ⊎ (state ≡ w.settled s)
  pub is_settled : w.is_settled state
  pub stands : to state

-- the turns before the next one: all that were made, or with a settling more
abbrev pub AreBefore : (turns earlier : List Turn) → Type 0
AreBefore turns earlier = (earlier ≡ turns) ⊎ (earlier ≡ Settled ∷ turns)

-- the run went on by one turn, of which this was told
pub record WentOn {S : Type 0} (w : PlainSettling S) (scope : Scope) (to : S → Type 0) (s : S) (connections : List (Option ConnectionState)) (peers : List Peer)
    (turns : List Turn) (Counted Told : Turn → Type 0) : Type 0 where
  pub earlier : List Turn
  pub behind : AreBefore turns earlier
  pub turn : Turn
  pub keeps : Keeps w scope to s connections peers (turn ∷ earlier)
  pub noted : Counted turn
  pub told : Told turn

-- the turn began with this offer, and the rest of its calls was told
abbrev pub IsToldBehind : Ready → (before after : Option (List Seen)) → Turn → Type 0
IsToldBehind offer before after turn = (calls : List Seen) × ((calls_of turn ≡ Offered offer ∷ calls) × Tells before after calls)

abbrev pub IsTold : (before after : Option (List Seen)) → Turn → Type 0
IsTold before after turn = Tells before after (calls_of turn)

-- whatever run led here, it goes on by one turn of the connections, once the offer was made
abbrev pub GoesOn : {S : Type 0} → PlainSettling S → (from to : S → Type 0) → (old new : List (Option ConnectionState)) → Ready → (tally next : TallyState)
    → (before after : Option (List Seen)) → Type 0
GoesOn w from to old new offer tally next before after = (scope : Scope) (peers : List Peer) (s : _) (turns : List Turn) → Keeps w scope from s old peers turns
    → WentOn w scope to s new peers turns (IsNoted tally next) (IsToldBehind offer before after)

-- whatever run led here, it goes on by one turn of the peers, once the offer was made
abbrev pub FetchesOn : {S : Type 0} → PlainSettling S → (from to : S → Type 0) → (old new : List Peer) → Ready → (tally next : TallyState)
    → (before after : Option (List Seen)) → Type 0
FetchesOn w from to old new offer tally next before after = (scope : Scope) (connections : List (Option ConnectionState)) (s : _) (turns : List Turn)
    → Keeps w scope from s connections old turns → WentOn w scope to s connections new turns (IsNoted tally next) (IsToldBehind offer before after)

-- whatever run led here, it went on by one turn
abbrev pub Turned : {S : Type 0} → PlainSettling S → (from to : S → Type 0) → (old new : List (Option ConnectionState)) → (old_peers new_peers : List Peer)
    → (tally next : TallyState) → (before after : Option (List Seen)) → Type 0
Turned w from to old new old_peers new_peers tally next before after = (scope : Scope) (s : _) (turns : List Turn) → Keeps w scope from s old old_peers turns
    → WentOn w scope to s new new_peers turns (IsHeard tally next) (IsTold before after)

-- one peer is as said, and the others are as before
pub record IsOnly (n : ℕ) (p q : Peer) (old new : List Peer) : Type 0 where
  pub was : slice_get old n ≡ Some p
  pub is : slice_get new n ≡ Some q
  pub others : (k : ℕ) → k ≢ n → slice_get new k ≡ slice_get old k
  pub many : length new ≡ length old

-- wherever it stands, this peer had a turn, once the offer was made
abbrev pub PeerTurned : {S : Type 0} → PlainSettling S → (from to : S → Type 0) → (n : ℕ) → (p q : Peer) → (now : ℕ) → PeerNews → (tally next : TallyState)
    → (before after : Option (List Seen)) → Type 0
PeerTurned w from to n p q now news tally next before after = (old new : List Peer) → IsOnly n p q old new
    → FetchesOn w from to old new (OfPeer n now news) tally next before after

-- bytes wait for the connection in the slot
abbrev pub Waits : Option ConnectionState → Type 0
Waits None = ⊥
Waits (Some l) = 0 < length l.waiting

-- bytes wait for the peer
abbrev pub PeerWaits : Option Peer → Type 0
PeerWaits None = ⊥
PeerWaits (Some p) = 0 < length (waiting p.moment)

-- it is an offer to write to a peer for which bytes wait
abbrev pub HasPeerWaiting : List Peer → Ready → Type 0
HasPeerWaiting peers (OfPeer n now MayWrite) = PeerWaits (slice_get peers n)
HasPeerWaiting peers _ = ⊥

-- it is an offer to write what waits
abbrev pub HasWaiting : List (Option ConnectionState) → List Peer → Ready → Type 0
HasWaiting connections peers (Write slot) = Waits (connection_at connections slot)
HasWaiting connections peers offer = HasPeerWaiting peers offer

-- What was owed couldn't be settled: all is as before, and of the edge's offer to write nothing was done.
abbrev pub IsUnsettled : {S : Type 0} → (from to : S → Type 0) → (old : List (Option ConnectionState)) → (peers : List Peer) → (before after : Option (List Seen)) → Type 0
IsUnsettled from to old peers before after =
    ((s : _) → from s → to s) × ((offer : Ready) × (HasWaiting old peers offer × Tells before after (Offered offer ∷ [])))

-- from s so many turns led here, the edge told them, and upkeep was made whenever it was due
pub record Led {S : Type 0} (w : PlainSettling S) (rule : Option UpkeepRule) (scope : Scope) (to : S → Type 0) (s : S) (connections : List (Option ConnectionState))
    (peers : List Peer) (tally : TallyState) (before after : Option (List Seen)) (count : ℕ) : Type 0 where
  pub turns : List Turn
  pub keeps : Keeps w scope to s connections peers turns
  pub seen : Tells before after (calls_in turns)
  pub many : count_of turns ≡ count
  pub timely : AreTimely rule turns
  pub tallied : tally ≡ tally_of rule turns

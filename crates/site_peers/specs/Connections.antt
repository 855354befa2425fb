-- What was done with a peer since it was last called, and that nothing is asked of one that the site didn't meet.
use Rattle.std.specs.Prelude.{◌≡◌, ℕ, Bool, true, false, List, [], ◌∷◌, ◌++◌, if◌then◌else◌, ◌⊎◌}
use Rattle.std.specs.List.{list_any}
use Rattle.site_peers.specs.declared.peers.Peer.{Peer}
use Rattle.site_peers.specs.Asking.{greeting, meeting, met, stat}
use Rattle.site_peers.specs.Hearing.{StartsWith}
use Rattle.site_peers.specs.Moves.{News, Through}
use Rattle.site_peers.specs.Runs.{PeerTurn, Went, is_call, wrote_in, came_in}

-- the turns since the peer was last called, the newest first
abbrev pub since_call : List PeerTurn → List PeerTurn
since_call [] = []
since_call (t ∷ older) = if is_call t.deed then [] else t ∷ since_call older

abbrev pub is_through : News → Bool
is_through Through = true
is_through _ = false

-- the call came through, in one of these turns
abbrev pub came_through : List PeerTurn → Bool
came_through turns = list_any (λ t. is_through t.news) turns

-- the bytes that came since the call came through
abbrev pub came_since : List PeerTurn → List ℕ
came_since [] = []
came_since (t ∷ older) = if came_through older then came_since older ++ came_in t.news else []

-- the bytes that were written in these turns
abbrev pub wrote_since : List PeerTurn → List ℕ
wrote_since [] = []
wrote_since (t ∷ older) = wrote_since older ++ wrote_in t.news

-- the requests that were asked in these turns
abbrev pub asked_since : List PeerTurn → List (List ℕ)
asked_since [] = []
asked_since (t ∷ older) = asked_since older ++ t.bodies

-- In this turn the site met the peer, and was asked Stat behind that. Until then nothing was asked of it since the call; the peer was sent the
-- question for its introduction and nothing else; and what it sent was one frame, whose body was put to the site.
pub record Met (t : PeerTurn) (older : List PeerTurn) : Type 0 where
  pub introduction : List ℕ
  pub statistics : List ℕ
  pub asked : t.bodies ≡ meeting introduction ∷ stat ∷ []
  pub replied : t.replies ≡ met ∷ statistics ∷ []
  pub nothing : asked_since older ≡ []
  pub wrote : wrote_since older ≡ greeting
  pub came : StartsWith introduction [] (came_since older)

-- in one of these turns the site met the peer
abbrev pub IsMet : List PeerTurn → Type 0
IsMet [] = ⊥
IsMet (t ∷ older) = Met t older ⊎ IsMet older

-- No exchange began in these turns: the peer was sent no more than the question for its introduction, and the site was asked no more than to meet
-- it.
pub record IsNotAsked (turns : List PeerTurn) : Type 0 where
  pub left : List ℕ
  pub wrote : wrote_since turns ++ left ≡ greeting
  pub asked : (asked_since turns ≡ []) ⊎ ((introduction : List ℕ) × (asked_since turns ≡ meeting introduction ∷ []))

-- Whatever turns a peer made, since it was last called either the site met it, before anything else, or no exchange began.
abbrev pub OnlyTheMetAreAsked : Type 0
OnlyTheMetAreAsked = (every : ℕ) (turns : List PeerTurn) (q : Peer) → Went every turns q → IsMet (since_call turns) ⊎ IsNotAsked (since_call turns)

-- Turns of a peer over a machine.
use Rattle.std.specs.Prelude.{ℕ, List}
use Rattle.tardis_base.specs.Plain.{PlainMachine, Answers}
use Rattle.site_peers.specs.declared.deeds.Deed.{Deed}
use Rattle.site_peers.specs.declared.peers.Peer.{Peer}
use Rattle.site_peers.specs.Asking.{by_nobody}
use Rattle.site_peers.specs.Moves.{News, Moves}

-- from s these replies answer these requests of actor 0, and the value stands for the last state
pub record Answered {S : Type 0} (m : PlainMachine S) (to : S → Type 0) (bodies replies : List (List ℕ)) (s : S) : Type 0 where
  pub state : S
  pub answers : Answers m s (by_nobody bodies) replies state
  pub stands : to state

-- whatever state the value stood for, these requests were answered from it by these replies
abbrev pub AnswersFrom : {S : Type 0} → PlainMachine S → (from to : S → Type 0) → (bodies replies : List (List ℕ)) → Type 0
AnswersFrom m from to bodies replies = (s : _) → from s → Answered m to bodies replies s

-- requests were asked and answered, and this was done with them
pub record Made {S : Type 0} (m : PlainMachine S) (from to : S → Type 0) (Does : (bodies replies : List (List ℕ)) → Type 0) : Type 0 where
  pub bodies : List (List ℕ)
  pub replies : List (List ℕ)
  pub answered : AnswersFrom m from to bodies replies
  pub does : Does bodies replies

-- At this time the edge told this of the peer p. It asked the machine requests as actor 0, which were answered, it asks this of the edge, and is q.
abbrev pub Turned : {S : Type 0} → PlainMachine S → (from to : S → Type 0) → (p : Peer) → News → (now : ℕ) → Deed → (q : Peer) → Type 0
Turned m from to p news now deed q = Made m from to (λ bodies replies. Moves p now bodies replies deed q news)

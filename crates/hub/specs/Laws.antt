-- Laws of runs.
use Rattle.std.specs.Prelude.{◌≡◌, ℕ, ◌+◌, List, [], ◌∷◌, ◌++◌}
use Rattle.tardis_base.specs.Plain.{Event, PlainMachine, Answers}
use Rattle.hub.specs.Settlings.{PlainSettling}
use Rattle.hub.specs.Answering.{asks}
use Rattle.hub.specs.Turns.{Turn, Received, Sent, Ended, KeptUp, PeerDid}
use Rattle.hub.specs.Runs.{close, Ran}

abbrev pub requests_of : Turn → List Event
requests_of (Received slot room came bodies replies) = asks (slot + 1) bodies
requests_of (Sent slot offered wrote bodies replies) = asks (slot + 1) bodies
requests_of (Ended slot) = (slot + 1, close) ∷ []
requests_of (KeptUp bodies replies) = asks 0 bodies
requests_of (PeerDid peer offered t) = asks 0 t.bodies
requests_of _ = []

-- the requests of turns, oldest first, each with its actor
abbrev pub trail : List Turn → List Event
trail [] = []
trail (turn ∷ older) = trail older ++ requests_of turn

-- Seen by what a state shows, the machine that settles is a plain one: it goes and answers as that does, and nobody sees
-- that it settles.
pub record IsSeenAs {S P : Type 0} (w : PlainSettling S) (m : PlainMachine P) (shows : S → P) : Type 0 where
  pub step : (s : S) (event : Event) → shows (w.machine.step s event) ≡ m.step (shows s) event
  pub reply : (s : S) (event : Event) → w.machine.reply s event ≡ m.reply (shows s) event
  pub is_sure : (event : Event) → w.machine.is_sure event ≡ m.is_sure event
  pub settled : (s : S) → shows (w.settled s) ≡ shows s

-- turns that were one after another are one run of the plain machine over the whole trail
abbrev pub OneTrail : {S P : Type 0} → PlainSettling S → PlainMachine P → (S → P) → Type 0
OneTrail {S} w m shows = (s t : S) (turns : List Turn) → Ran w s turns t
    → (replies : List (List ℕ)) × Answers m (shows s) (trail turns) replies (shows t)

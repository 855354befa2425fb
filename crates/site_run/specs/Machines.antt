-- Replies of a machine to the events of bodies.
use Rattle.std.specs.Prelude.{◌≡◌, ℕ, List, [], ◌∷◌, Option}
use Rattle.tardis_base.specs.Plain.{Event, PlainMachine, Answers}
use Rattle.tardis_io.specs.Told.{WhileTold}
use Rattle.frame_cut.specs.Frames.{frame, frames}
use Rattle.frame_cut.specs.Events.{event_of}

-- a body may be answered by the frame of a reply that answers its event
abbrev pub MachineMay : {S : Type 0} → PlainMachine S → S → List ℕ → List ℕ → S → Type 0
MachineMay m s body answer t = (reply : List ℕ) × ((answer ≡ frame reply) × Answers m s (event_of body ∷ []) (reply ∷ []) t)

-- From s, replies answer the events, their frames are what was given, and the value stands for the last state.
pub record Answered {S : Type 0} (m : PlainMachine S) (shape : List ℕ → List ℕ → List ℕ → Type 0) (to : S → Type 0) (old new : Option (List ℕ)) (s : S)
    (events : List Event) : Type 0 where
  pub replies : List (List ℕ)
  pub state : S
  pub answers : Answers m s events replies state
  pub stands : to state
  pub given : WhileTold old new (λ y z. shape y z (frames replies))

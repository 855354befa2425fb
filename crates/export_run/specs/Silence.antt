-- A machine that is asked, and whose replies are forgotten.
use Rattle.std.specs.Prelude.{◌≡◌, ℕ, false, List, [], ◌⊎◌}
use Rattle.tardis_base.specs.Plain.{Event, PlainMachine, Answers, no_memory, state_after}
use Rattle.tardis_io.specs.declared.statuses.Status.{Status}
use Rattle.tardis_io.specs.declared.statuses.Status.TheVariants.{WriteFault}
use Rattle.frame_cut.specs.Events.{event_of}

-- a body is answered by no bytes; or by the reply that memory is wanting, and then the state is as before
abbrev pub SilentMay : {S : Type 0} → PlainMachine S → S → List ℕ → List ℕ → S → Type 0
SilentMay m s body answer t =
    ((answer ≡ []) × (t ≡ m.step s (event_of body))) ⊎ ((answer ≡ no_memory) × (m.is_sure (event_of body) ≡ false) × (t ≡ s))

-- Some replies answer the events from s, and lead to t. That one of them says that memory is wanting is told by a sink that
-- refuses all bytes; where it refused none, all were plain.
abbrev pub Leads : {S : Type 0} → PlainMachine S → Status → S → List Event → S → Type 0
Leads m WriteFault s es t = (replies : List (List ℕ)) × Answers m s es replies t
Leads m _ s es t = t ≡ state_after m s es

-- from s the events were asked, and the value stands for the state to which they lead
pub record Led {S : Type 0} (m : PlainMachine S) (status : Status) (to : S → Type 0) (s : S) (events : List Event) : Type 0 where
  pub state : S
  pub leads : Leads m status s events state
  pub stands : to state

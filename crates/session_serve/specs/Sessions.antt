-- A session, and how it ends.
use Rattle.std.specs.Prelude.{◌≡◌, ℕ, List, [], ◌∷◌, ◌++◌, length, Option}
use Rattle.tardis_base.specs.Plain.{Event, PlainMachine}
use Rattle.tardis_io.specs.Told.{WhileTold}
use Rattle.tardis_io.specs.declared.statuses.Status.{Status}
use Rattle.tardis_io.specs.declared.statuses.Status.TheVariants.{Ok, Cut as InputCut, LongFrame as FrameTooLong, ReadFault as FaultRead}
use Rattle.tardis_io.specs.declared.statuses.Status.TheVariants.{WriteFault as FaultWrite, Spent as InputSpent, NoMemory as OutOfMemory}
use Rattle.frame_cut.specs.Frames.{frames}
use Rattle.site_run.specs.Endings.{Outcome, shape_of}
use Rattle.session_serve.specs.declared.ends.SessionEnd.{SessionEnd}
use Rattle.session_serve.specs.declared.ends.SessionEnd.TheVariants.{Ended, Cut, LongFrame, ReadFault, WriteFault, Spent, NoMemory}
use Rattle.session_serve.specs.Turns.{Turn, HadTurns, places_of}
use Rattle.session_serve.specs.Replies.{asked_by, close_of, AreReplies}

-- the status with which a run over the link would end so
abbrev pub status_of : SessionEnd → Status
status_of Ended = Ok
status_of Cut = InputCut
status_of (LongFrame len) = FrameTooLong len
status_of ReadFault = FaultRead
status_of WriteFault = FaultWrite
status_of Spent = InputSpent
status_of NoMemory = OutOfMemory

-- what a session asks last: its Close, unless it had no memory for its buffers
abbrev pub last_asked : SessionEnd → ℕ → List Event
last_asked NoMemory session = []
last_asked _ session = close_of session ∷ []

-- A session over the plain machine, from its opening state: it asked what the bodies ask, and then these last events. Each
-- had its turn after the first `from` entries of what was seen, and the replies are those to the bodies.
pub record Session {P : Type 0} (m : PlainMachine P) (start : P) (most session : ℕ) (last : List Event) (from : ℕ) (seen : List Event) (places : List ℕ)
    (bodies replies : List (List ℕ)) : Type 0 where
  pub turns : List Turn
  pub each : HadTurns most seen from (asked_by session bodies ++ last) turns
  pub replied : AreReplies m start seen turns replies
  pub one_each : length replies ≡ length bodies
  pub places_are : places ≡ places_of turns

-- the same, where the frames of the replies are what was given; less of them only where giving failed
pub record Served {P : Type 0} (m : PlainMachine P) (start : P) (most session : ℕ) (end : SessionEnd) (from : ℕ) (seen : List Event) (places : List ℕ)
    (old new : Option (List ℕ)) (bodies : List (List ℕ)) : Type 0 where
  pub replies : List (List ℕ)
  pub talk : Session m start most session (last_asked end session) from seen places bodies replies
  pub given : WhileTold old new (λ y z. shape_of (status_of end) y z (frames replies))

-- What a session did on a link, of which so much was left at first and is left now: as a run over the link, it cut bodies
-- from the front, asked them in turn, gave the replies, and ended so.
abbrev pub SessionOutcome : {P : Type 0} → PlainMachine P → P → ℕ → ℕ → SessionEnd → ℕ → List Event → List ℕ → Option (List ℕ) → Option (List ℕ)
    → List ℕ → List ℕ → Type 0
SessionOutcome m start most session end from seen places old new first left =
    Outcome (status_of end) (λ n. n ≡ from) (λ n bodies. Served m start most session end n seen places old new bodies) first left

-- Laws of sessions.
use Rattle.std.specs.Prelude.{ℕ, List, Option}
use Rattle.tardis_base.specs.Plain.{Event, PlainMachine}
use Rattle.dag_lock.specs.Known.{Begins, Ascends}
use Rattle.session_serve.specs.declared.ends.SessionEnd.{SessionEnd}
use Rattle.session_serve.specs.Sessions.{Session, SessionOutcome}
use Rattle.std.specs.Prelude.{length}

module _ {P : Type 0} (m : PlainMachine P) where
  -- what a session did stays so in every longer trail
  abbrev pub LongerKeepsSessions : Type 0
  LongerKeepsSessions =
      (start : P) (most session : ℕ) (last : List Event) (from : ℕ) (seen longer : List Event) (places : List ℕ) (bodies replies : List (List ℕ))
      → Begins seen longer → Session m start most session last from seen places bodies replies
      → Session m start most session last from longer places bodies replies

  abbrev pub LongerKeepsOutcomes : Type 0
  LongerKeepsOutcomes =
      (start : P) (most session : ℕ) (end : SessionEnd) (from : ℕ) (seen longer : List Event) (places : List ℕ) (old new : Option (List ℕ))
      (first left : List ℕ)
      → Begins seen longer → SessionOutcome m start most session end from seen places old new first left
      → SessionOutcome m start most session end from longer places old new first left

  -- the places of a session ascend
  abbrev pub PlacesAscend : Type 0
  PlacesAscend =
      (start : P) (most session : ℕ) (last : List Event) (from : ℕ) (seen : List Event) (places : List ℕ) (bodies replies : List (List ℕ))
      → Session m start most session last from seen places bodies replies → Ascends from (length seen) places

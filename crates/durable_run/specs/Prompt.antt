-- That no reply of a durable run is kept back.
use Rattle.std.specs.Prelude.{ℕ, List, ◌++◌, ◌≡◌, Option}
use Rattle.std.specs.List.{concat}
use Rattle.tardis_base.specs.Plain.{PlainMachine}
use Rattle.tardis_io.specs.Told.{WhileTold}
use Rattle.tardis_io.specs.declared.streams.Sink.{Ghosts as ASink}
use Rattle.tardis_io.specs.declared.duplexes.Duplex.{Ghosts as ADuplex}
use Rattle.site_run.specs.Prompt.{EachTake, UpToDate}
use Rattle.site_run.specs.Responses.{InTurn}
use Rattle.durable_run.specs.Replies.{MayAnswer}

-- From these entries all of these bodies were answered in turn, and all answers were given.
pub record AllGiven {S : Type 0} (plain : PlainMachine S) (opening : S) (most : ℕ) (found : List (List ℕ)) (was given : Option (List ℕ))
    (bodies : List (List ℕ)) : Type 0 where
  pub answers : List (List ℕ)
  pub entries : List (List ℕ)
  pub each : InTurn (MayAnswer plain opening most) found bodies answers entries
  pub told : WhileTold was given (λ y z. z ≡ y ++ concat answers)

-- Each take that the device tells was made when all frames in the bytes taken so far were answered, from these entries, and all
-- answers were given.
abbrev pub IsPrompt : {S D : Type 0} → PlainMachine S → ADuplex D → ASink D → S → ℕ → List (List ℕ) → D → D → Type 0
IsPrompt plain d o opening most found old new = EachTake (d.takes old) (d.takes new)
    (λ moment. WhileTold (d.left old) moment.left
    (UpToDate (λ s. s ≡ found) (λ s bodies. AllGiven plain opening most s (o.given old) moment.given bodies)))

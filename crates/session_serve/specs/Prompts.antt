-- A session's replies are not kept back.
use Rattle.std.specs.Prelude.{◌≡◌, ℕ, List, [], Option}
use Rattle.tardis_base.specs.Plain.{Event, PlainMachine}
use Rattle.tardis_io.specs.Told.{WhileTold}
use Rattle.tardis_io.specs.Moments.{Moment}
use Rattle.frame_cut.specs.Frames.{frames}
use Rattle.site_run.specs.Responses.{Whole}
use Rattle.site_run.specs.Prompt.{EachTake, UpToDate}
use Rattle.session_serve.specs.Sessions.{Session}

-- what a session had asked by then, and the frames of all replies, which had been given by then
pub record SoFar {P : Type 0} (m : PlainMachine P) (start : P) (most session from : ℕ) (old now : Option (List ℕ)) (bodies : List (List ℕ)) : Type 0 where
  pub seen : List Event
  pub places : List ℕ
  pub replies : List (List ℕ)
  pub talk : Session m start most session [] from seen places bodies replies
  pub given : WhileTold old now (λ y z. Whole y z (frames replies))

-- At each take between the two, all frames that had been read to their end had been asked, and their replies given.
abbrev pub RepliesAtOnce : {P : Type 0} → PlainMachine P → P → ℕ → ℕ → ℕ → Option (List ℕ) → Option (List ℕ) → Option (List Moment)
    → Option (List Moment) → Type 0
RepliesAtOnce m start most session from left given old new =
    EachTake old new (λ moment. WhileTold left moment.left (UpToDate (λ n. n ≡ from) (λ n bodies. SoFar m start most session n given moment.given bodies)))

-- Replies are not kept back: what was answered and given when a take was made.
use Rattle.std.specs.Prelude.{◌≡◌, ℕ, List, ◌++◌, Option, Some, None}
use Rattle.std.specs.List.{AllByRecursion}
use Rattle.tardis_io.specs.Moments.{Moment}
use Rattle.site_run.specs.Forms.{Form, frame_form, line_form}

-- where takes are told, P holds of each that was made between the two
abbrev pub EachTake : Option (List Moment) → Option (List Moment) → (Moment → Type 0) → Type 0
EachTake None None P = Unit {0}
EachTake (Some old) (Some new) P = (made : List Moment) × ((new ≡ old ++ made) × AllByRecursion P made)
EachTake None (Some new) P = ⊥
EachTake (Some old) None P = ⊥

-- All bodies that end in the bytes that were taken so far were cut and answered: what stands behind them may become one, and
-- is none yet, nor too long.
pub record AllSoFar (F : Form) {S : Type 0} (from : S → Type 0) (Answered : S → List (List ℕ) → Type 0) (first left : List ℕ) : Type 0 where
  pub bodies : List (List ℕ)
  pub held : List ℕ
  pub read : F.Cuts first bodies (held ++ left)
  pub partial : F.IsPart held
  pub answered : (s : S) → from s → Answered s bodies

-- all frames were
abbrev pub UpToDate : {S : Type 0} → (S → Type 0) → (S → List (List ℕ) → Type 0) → List ℕ → List ℕ → Type 0
UpToDate from Answered first left = AllSoFar frame_form from Answered first left

-- all lines that a line feed ends were
abbrev pub UpToDateLines : {S : Type 0} → (S → Type 0) → (S → List (List ℕ) → Type 0) → List ℕ → List ℕ → Type 0
UpToDateLines from Answered first left = AllSoFar line_form from Answered first left

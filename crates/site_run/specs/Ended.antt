-- How an input ended, and which body its end ended.
use Rattle.std.specs.Prelude.{ℕ, List, []}
use Rattle.site_run.specs.declared.answers.InputEnd.{InputEnd}
use Rattle.site_run.specs.declared.answers.InputEnd.TheVariants.{All, CutOff}
use Rattle.site_run.specs.Forms.{Form}

-- what was held is an end, and its last body was answered; or it is cut off, and none was
abbrev pub EndIs : Form → InputEnd → List ℕ → (List (List ℕ) → Type 0) → Type 0
EndIs F All held Answered = F.IsEnd held × Answered (F.last held)
EndIs F CutOff held Answered = F.IsCutOff held × Answered []

-- What lines are answered by where auto steps are asked for too.
use Rattle.std.specs.Prelude.{◌≡◌, ℕ, ◌⊎◌, List, [], ◌∷◌, ◌++◌, Option, Some, None, codes}
use Rattle.tardis_base.specs.Plain.{PlainMachine}
use Rattle.shell_run.specs.Answers.{ShellMay}
use Rattle.plain_site.specs.Site.{Site}
use Rattle.rule_list.specs.declared.rules.PrefixRule.{PrefixRule}
use Rattle.merge_rules.specs.Auto.{AutoAnswer, auto_step}
use Rattle.auto_run.specs.AutoLines.{auto_actor, end_line}

-- The line tells how the auto step ended, and the site is the one after it; or the line says that memory is wanting, and the
-- site stays.
abbrev pub StepMay : AutoAnswer → Site → List ℕ → Site → Type 0
StepMay auto s answer t = ((answer ≡ end_line auto.1 ++ 10 ∷ []) × (t ≡ auto.0)) ⊎ ((answer ≡ codes "nomemory" ++ 10 ∷ []) × (t ≡ s))

-- the actor's auto step may be answered so, whatever line asked for it
abbrev pub StepAnswers : ℕ → List PrefixRule → Site → List ℕ → List ℕ → Site → Type 0
StepAnswers actor rules s line answer t = StepMay (auto_step s actor rules) s answer t

-- what is asked may be answered so: an auto step of an actor, or else what the line is to a shell
abbrev pub AskedMay : PlainMachine Site → List PrefixRule → Site → List ℕ → Option ℕ → List ℕ → Site → Type 0
AskedMay m rules s line (Some actor) answer t = StepAnswers actor rules s line answer t
AskedMay m rules s line None answer t = ShellMay m s line answer t

-- a line may be answered by the line of its actor's auto step, where it is `N auto`; another one as a shell answers it
abbrev pub AutoMay : PlainMachine Site → List PrefixRule → Site → List ℕ → List ℕ → Site → Type 0
AutoMay m rules s line answer t = AskedMay m rules s line (auto_actor line) answer t

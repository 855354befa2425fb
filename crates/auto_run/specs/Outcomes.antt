-- What a shell with auto steps did, and how it ended.
use Rattle.std.specs.Prelude.{◌≡◌, ◌+◌, ℕ, List, [], Option}
use Rattle.tardis_base.specs.Plain.{PlainMachine}
use Rattle.tardis_base.specs.Sizes.{longest_frame}
use Rattle.tardis_io.specs.declared.statuses.Status.{Status}
use Rattle.site_run.specs.Responses.{AnsweredBy, Whole}
use Rattle.site_run.specs.Endings.{shape_within}
use Rattle.site_run.specs.Prompt.{UpToDateLines}
use Rattle.site_run.specs.Endings.{LineOutcome}
use Rattle.shell_run.specs.Outcomes.{longest_shell_line}
use Rattle.plain_site.specs.Site.{Site}
use Rattle.plain_site.specs.Step.{site_machine}
use Rattle.plain_site.specs.Sound.{IsSound}
use Rattle.rule_list.specs.declared.rules.PrefixRule.{PrefixRule}
use Rattle.auto_run.specs.Answers.{AutoMay}

-- Over what was left of the input at first: lines were cut from its front, and the lines that answer them were given, all of
-- them unless writing failed. Then what was given lacks at most a mebibyte and one line.
abbrev pub AutoOutcome : PlainMachine Site → List PrefixRule → Status → (Site → Type 0) → (Site → Type 0) → Option (List ℕ) → Option (List ℕ) → List ℕ
    → List ℕ → Type 0
AutoOutcome m rules status from to old new first left =
    LineOutcome status from (λ s lines. AnsweredBy (AutoMay m rules) (shape_within (longest_frame + longest_shell_line) status) to old new [] [] s lines) first left

-- the same from the plain site that opens
abbrev pub AutoFrom : Site → List PrefixRule → Status → Option (List ℕ) → Option (List ℕ) → List ℕ → List ℕ → Type 0
AutoFrom site rules status old new first left = AutoOutcome site_machine rules status (λ s. s ≡ site) IsSound old new first left

-- What was answered and given when a take was made: of the lines whose line feed was taken by then, all.
abbrev pub AutoIsPrompt : PlainMachine Site → List PrefixRule → (Site → Type 0) → Option (List ℕ) → Option (List ℕ) → List ℕ → List ℕ → Type 0
AutoIsPrompt m rules from old given first left =
    UpToDateLines from (λ s lines. AnsweredBy (AutoMay m rules) Whole (λ _. Unit {0}) old given [] [] s lines) first left

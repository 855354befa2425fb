-- What a shell and an audit did, and how they ended.
use Rattle.std.specs.Prelude.{ℕ, ◌+◌, List, [], Option}
use Rattle.tardis_base.specs.Plain.{PlainMachine}
use Rattle.tardis_base.specs.Sizes.{longest_frame}
use Rattle.tardis_io.specs.declared.statuses.Status.{Status}
use Rattle.site_run.specs.Responses.{AnsweredBy, Whole}
use Rattle.site_run.specs.Prompt.{UpToDate}
use Rattle.site_run.specs.Endings.{Outcome, shape_within}
use Rattle.site_run.specs.Prompt.{UpToDateLines}
use Rattle.site_run.specs.Endings.{LineOutcome}
use Rattle.shell_run.specs.declared.TheConstants.{MAX_SHELL_LINE, MAX_AUDIT_LINE}
use Rattle.shell_run.specs.Answers.{ShellMay, AuditMay}

-- the most bytes of one line of a shell, with its line feed
abbrev pub longest_shell_line : ℕ
longest_shell_line = MAX_SHELL_LINE

-- the most bytes of one line of an audit: two lines, the four bytes between, and a line feed
abbrev pub longest_audit_line : ℕ
longest_audit_line = MAX_AUDIT_LINE

-- Over what was left of the input at first: lines were cut from its front, and the lines of replies to them were given, all of
-- them unless writing failed. Then what was given lacks at most a mebibyte and one line.
abbrev pub ShellOutcome : {S : Type 0} → PlainMachine S → Status → (S → Type 0) → (S → Type 0) → Option (List ℕ) → Option (List ℕ) → List ℕ → List ℕ → Type 0
ShellOutcome m status from to old new first left =
    LineOutcome status from (λ s lines. AnsweredBy (ShellMay m) (shape_within (longest_frame + longest_shell_line) status) to old new [] [] s lines) first left

-- all lines whose line feed was taken so far were answered, and all answers given
abbrev pub ShellIsPrompt : {S : Type 0} → PlainMachine S → (S → Type 0) → Option (List ℕ) → Option (List ℕ) → List ℕ → List ℕ → Type 0
ShellIsPrompt m from old given first left =
    UpToDateLines from (λ s lines. AnsweredBy (ShellMay m) Whole (λ _. Unit {0}) old given [] [] s lines) first left

-- the same of bodies of frames, of each of which a line tells what it asks and what is replied
abbrev pub AuditOutcome : {S : Type 0} → PlainMachine S → Status → (S → Type 0) → (S → Type 0) → Option (List ℕ) → Option (List ℕ) → List ℕ → List ℕ → Type 0
AuditOutcome m status from to old new first left =
    Outcome status from (λ s bodies. AnsweredBy (AuditMay m) (shape_within (longest_frame + longest_audit_line) status) to old new [] [] s bodies) first left

abbrev pub AuditIsPrompt : {S : Type 0} → PlainMachine S → (S → Type 0) → Option (List ℕ) → Option (List ℕ) → List ℕ → List ℕ → Type 0
AuditIsPrompt m from old given first left =
    UpToDate from (λ s bodies. AnsweredBy (AuditMay m) Whole (λ _. Unit {0}) old given [] [] s bodies) first left

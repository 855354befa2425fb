-- Runs that had no memory for their buffers.
use Rattle.std.proofs.Common.{ℕ, List, [], ◌++◌, Option, Some, None, refl, sym, arith}
use Rattle.std.proofs.lemmas.List.{append-nil}
use Rattle.tardis_base.specs.Plain.{PlainMachine}
use Rattle.tardis_io.specs.Told.{WhileTold}
use Rattle.tardis_io.specs.declared.statuses.Status.TheVariants.{NoMemory}
use Rattle.line_cut.specs.Lines.{last_line}
use Rattle.site_run.specs.Responses.{Whole}
use Rattle.shell_run.specs.Outcomes.{ShellOutcome, AuditOutcome}

nothing_given : (old : Option (List ℕ)) → WhileTold old old (λ y z. Whole (y ++ []) (z ++ []) [])
nothing_given None = tt
nothing_given (Some y) = sym (append-nil (y ++ []))

pub no_shell : {S : Type 0} (m : PlainMachine S) (from : S → Type 0) (old : Option (List ℕ)) (first : List ℕ) →
    ShellOutcome m NoMemory from from old old first first
no_shell m from old first = record {
  cut = [];
  last = [];
  held = [];
  read = record { whole = refl; each = tt };
  answered = λ s f. record { answers = []; state = s; each = refl; stands = f; given = nothing_given old };
  ends = (refl, refl, refl, refl);
  spent = λ e. absurd (omega (arith, e));
  front = λ all rest cut. (all ++ last_line rest, refl);
  whole = λ all rest cut. tt;
}

pub no_audit : {S : Type 0} (m : PlainMachine S) (from : S → Type 0) (old : Option (List ℕ)) (first : List ℕ) →
    AuditOutcome m NoMemory from from old old first first
no_audit m from old first = record {
  bodies = [];
  held = [];
  read = record { whole = refl; each = tt };
  answered = λ s f. record { answers = []; state = s; each = refl; stands = f; given = nothing_given old };
  ends = (refl, refl, refl);
  spent = λ e. absurd (omega (arith, e));
  front = λ all rest cut. (all, refl);
  whole = λ all rest cut. tt;
}

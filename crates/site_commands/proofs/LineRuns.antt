-- What a shell and an audit of a machine that stands for a site say of the site.
use Rattle.std.proofs.Common.{◌≡◌, ℕ, false, ◌&&◌, List, [], ◌∷◌, ◌++◌, Option, Some, None, refl, sym, subst, inl, inr, arith}
use Rattle.std.proofs.lemmas.List.{append-nil}
use Rattle.std.specs.Option.{option_map_or}
use Rattle.tardis_base.specs.Plain.{Event}
use Rattle.tardis_base.specs.declared.requests.Request.{Request}
use Rattle.tardis_base.specs.declared.requests.Request.TheVariants.{Open, Begin as BeginAt, Get, Put, Delete, Commit, Abort, BeginMerge, ForkPoints}
use Rattle.tardis_base.specs.declared.requests.Request.TheVariants.{Conflicts, GetFor, Ceiling, Raise, RaiseAuto, Tidy, Stat, Show, Leaves, Pull, Deliver}
use Rattle.tardis_base.specs.declared.requests.Request.TheVariants.{Close, Settle}
use Rattle.tardis_io.specs.Told.{WhileTold}
use Rattle.tardis_io.specs.declared.statuses.Status.{Status}
use Rattle.tardis_io.specs.declared.statuses.Status.TheVariants.{NoMemory}
use Rattle.line_cut.specs.Lines.{last_line}
use Rattle.wire_talk.specs.Memory.{takes_no_memory}
use Rattle.wire_talk.specs.RequestReadings.{request_of}
use Rattle.site_run.specs.Responses.{Whole, InTurn, AnsweredBy}
use Rattle.site_run.specs.Endings.{shape_within}
use Rattle.shell_run.specs.Answers.{over_lines, event_of_line, AskedMay, ShellMay, AuditMay}
use Rattle.shell_run.specs.Outcomes.{ShellOutcome, AuditOutcome}
use Rattle.plain_site.specs.Site.{Site}
use Rattle.plain_site.specs.Step.{is_sure, site_machine}
use Rattle.plain_site.specs.Sound.{IsSound}
use Rattle.site_commands.specs.Runs.{ShellFrom, AuditFrom}

-- what memory can't fail is read without memory
sure_alone : (q : Request) → (is_sure q && takes_no_memory q) ≡ false → is_sure q ≡ false
sure_alone (Open follow) e = refl
sure_alone (BeginAt b) e = refl
sure_alone (Get k) e = refl
sure_alone (Put k v) e = refl
sure_alone (Delete k) e = refl
sure_alone (Commit flags k) e = refl
sure_alone Abort e = e
sure_alone (BeginMerge of) e = refl
sure_alone ForkPoints e = refl
sure_alone (Conflicts after) e = refl
sure_alone (GetFor k x) e = refl
sure_alone (Ceiling x) e = e
sure_alone (Raise x) e = e
sure_alone RaiseAuto e = e
sure_alone (Tidy n) e = e
sure_alone Stat e = e
sure_alone (Show x) e = refl
sure_alone Leaves e = refl
sure_alone (Pull counts) e = refl
sure_alone (Deliver item) e = refl
sure_alone Close e = e
sure_alone Settle e = refl

sure_read : (o : Option Request) → (option_map_or is_sure o false && option_map_or takes_no_memory o false) ≡ false → option_map_or is_sure o false ≡ false
sure_read None e = refl
sure_read (Some q) e = sure_alone q e

-- a reply over lines is one of the plain site
asked_may : (s : Site) (o : Option Event) (reply : List ℕ) (t : Site) → AskedMay (over_lines site_machine) s o reply t → AskedMay site_machine s o reply t
asked_may s None reply t may = may
asked_may s (Some event) reply t may = elim may as (λ _. AskedMay site_machine s (Some event) reply t) [
  | inl a ↦ inl a
  | inr b ↦ inr (b.0, sure_read (request_of event.1) b.1, b.2)
]

shell_may : (s : Site) (line answer : List ℕ) (t : Site) → ShellMay (over_lines site_machine) s line answer t → ShellMay site_machine s line answer t
shell_may s line answer t may = (may.0, (may.1.0, asked_may s (event_of_line line) may.0 t may.1.1))

in_turn : (s : Site) (lines answers : List (List ℕ)) (t : Site) → InTurn (ShellMay (over_lines site_machine)) s lines answers t →
    InTurn (ShellMay site_machine) s lines answers t
in_turn s [] [] t p = p
in_turn s (line ∷ lines) (answer ∷ answers) t p = (p.0, (shell_may s line answer p.0 p.1.0, in_turn p.0 lines answers t p.1.1))
in_turn s [] (answer ∷ answers) t p = absurd p
in_turn s (line ∷ lines) [] t p = absurd p

shell_answered : (shape : List ℕ → List ℕ → List ℕ → Type 0) (To : Site → Type 0) (old new : Option (List ℕ)) (s : Site) (lines : List (List ℕ)) →
    ((t : Site) → To t → IsSound t)
    → AnsweredBy (ShellMay (over_lines site_machine)) shape To old new [] [] s lines → AnsweredBy (ShellMay site_machine) shape IsSound old new [] [] s lines
shell_answered shape To old new s lines sound a = record {
  answers = a.answers;
  state = a.state;
  each = in_turn s lines a.answers a.state a.each;
  stands =
      sound a.state a.stands;
  given = a.given;
}

audit_answered : (shape : List ℕ → List ℕ → List ℕ → Type 0) (To : Site → Type 0) (old new : Option (List ℕ)) (s : Site) (bodies : List (List ℕ)) →
    ((t : Site) → To t → IsSound t)
    → AnsweredBy (AuditMay site_machine) shape To old new [] [] s bodies → AnsweredBy (AuditMay site_machine) shape IsSound old new [] [] s bodies
audit_answered shape To old new s bodies sound a = record {
  answers = a.answers;
  state = a.state;
  each = a.each;
  stands = sound a.state a.stands;
  given =
      a.given;
}

pub shell_from : (site : Site) (From To : Site → Type 0) (status : Status) (old new : Option (List ℕ)) (first left : List ℕ) → From site →
    ((t : Site) → To t → IsSound t)
    → ShellOutcome (over_lines site_machine) status From To old new first left → ShellFrom site status old new first left
shell_from site From To status old new first left here sound o = record {
  cut = o.cut;
  last = o.last;
  held = o.held;
  read = o.read;
  answered = λ s e. shell_answered (shape_within 5242945 status) To old new s (o.cut ++ o.last) sound (o.answered s (subst From (sym e) here));
  ends = o.ends;
  spent = o.spent;
  front = o.front;
  whole = o.whole;
}

pub audit_from : (site : Site) (From To : Site → Type 0) (status : Status) (old new : Option (List ℕ)) (first left : List ℕ) → From site →
    ((t : Site) → To t → IsSound t)
    → AuditOutcome site_machine status From To old new first left → AuditFrom site status old new first left
audit_from site From To status old new first left here sound o = record {
  bodies = o.bodies;
  held = o.held;
  read = o.read;
  answered = λ s e. audit_answered (shape_within 9437317 status) To old new s o.bodies sound (o.answered s (subst From (sym e) here));
  ends = o.ends;
  spent = o.spent;
  front = o.front;
  whole = o.whole;
}

nothing_given : (old : Option (List ℕ)) → WhileTold old old (λ y z. Whole (y ++ []) (z ++ []) [])
nothing_given None = tt
nothing_given (Some y) = sym (append-nil (y ++ []))

-- a shell that had no memory read nothing and gave nothing
pub no_shell : (site : Site) (old : Option (List ℕ)) (first : List ℕ) → IsSound site → ShellFrom site NoMemory old old first first
no_shell site old first sound = record {
  cut = [];
  last = [];
  held = [];
  read = record { whole = refl; each = tt };
  answered = λ s e. record { answers = []; state = s; each = refl; stands = subst (λ z. IsSound z) (sym e) sound; given = nothing_given old };
  ends = (refl, refl, refl, refl);
  spent = λ e. absurd (omega (arith, e));
  front = λ all rest cut. (all ++ last_line rest, refl);
  whole = λ all rest cut. tt;
}

-- and neither did such an audit
pub no_audit : (site : Site) (old : Option (List ℕ)) (first : List ℕ) → IsSound site → AuditFrom site NoMemory old old first first
no_audit site old first sound = record {
  bodies = [];
  held = [];
  read = record { whole = refl; each = tt };
  answered = λ s e. record { answers = []; state = s; each = refl; stands = subst (λ z. IsSound z) (sym e) sound; given = nothing_given old };
  ends = (refl, refl, refl);
  spent = λ e. absurd (omega (arith, e));
  front = λ all rest cut. (all, refl);
  whole = λ all rest cut. tt;
}

-- What runs with the rules say of the site alone.
use Rattle.std.proofs.Common.{◌≡◌, ℕ, List, [], ◌∷◌, ◌++◌, Option, Some, None, refl, ap, sym, subst, ◌∙◌, arith}
use Rattle.std.proofs.lemmas.List.{append-nil}
use Rattle.tardis_base.specs.Plain.{PlainMachine}
use Rattle.tardis_io.specs.Told.{WhileTold}
use Rattle.tardis_io.proofs.Told.{weaker}
use Rattle.tardis_io.specs.declared.statuses.Status.{Status}
use Rattle.tardis_io.specs.declared.statuses.Status.TheVariants.{NoMemory}
use Rattle.line_cut.specs.Lines.{last_line}
use Rattle.site_run.specs.Responses.{Whole, InTurn, AnsweredBy}
use Rattle.site_run.specs.Endings.{shape_within}
use Rattle.site_run.specs.Endings.{LineOutcome}
use Rattle.shell_run.specs.Answers.{over_lines}
use Rattle.plain_site.specs.Site.{Site}
use Rattle.plain_site.specs.Step.{site_machine}
use Rattle.plain_site.specs.Sound.{IsSound}
use Rattle.rule_list.specs.declared.rules.PrefixRule.{PrefixRule}
use Rattle.auto_run.specs.AutoLines.{auto_actor}
use Rattle.auto_run.specs.Answers.{AskedMay, AutoMay}
use Rattle.auto_run.specs.RuledCores.{RuledCore}
use Rattle.auto_run.specs.Ruled.{Ruled, RuledStands, RuledMay}
use Rattle.auto_run.specs.Outcomes.{AutoOutcome, AutoFrom}
use Rattle.auto_run.proofs.Shells.{shell_may}

-- ===== The rules stay

unfoldable pub ruled : Site → List PrefixRule → Ruled
ruled s rules = record { site = s; rules = rules }

pub in_turn : (rules : List PrefixRule) (s : Ruled) (lines answers : List (List ℕ)) (t : Ruled) → s.rules ≡ rules → InTurn RuledMay s lines answers t
    → InTurn (AutoMay (over_lines site_machine) rules) s.site lines answers t.site
in_turn rules s [] [] t is p = ap (λ r. r.site) p
in_turn rules s (line ∷ lines) (answer ∷ answers) t is p =
    let u = p.0 in
    (u.site, (subst (λ r. AutoMay (over_lines site_machine) r s.site line answer u.site) is p.1.0.0, in_turn rules u lines answers t (p.1.0.1 ∙ is) p.1.1))
in_turn rules s [] (answer ∷ answers) t is p = absurd p
in_turn rules s (line ∷ lines) [] t is p = absurd p

module _ {S : Type 0} (stands : S → Site → Type 0) (before after : RuledCore S) (status : Status) (old new : Option (List ℕ)) (first left : List ℕ) where
  site_answered : (s : Site) (lines : List (List ℕ)) → AnsweredBy RuledMay (shape_within 5242945 status) (RuledStands stands after) old new [] []
      (ruled s before.rules) lines
      → AnsweredBy (AutoMay (over_lines site_machine) before.rules) (shape_within 5242945 status) (stands after.core) old new [] [] s lines
  unfolding ruled
  site_answered s lines a = record {
    answers = a.answers;
    state = a.state.site;
    each = in_turn before.rules (ruled s before.rules) lines a.answers a.state refl a.each;
    stands = a.stands.0;
    given = a.given;
  }

  pub of_site : LineOutcome status (RuledStands stands before) (λ s lines. AnsweredBy RuledMay (shape_within 5242945 status) (RuledStands stands after) old new
      [] [] s lines) first left
      → AutoOutcome (over_lines site_machine) before.rules status (stands before.core) (stands after.core) old new first left
  unfolding ruled
  of_site o = record {
    cut = o.cut;
    last = o.last;
    held = o.held;
    read = o.read;
    answered = λ s f. site_answered s (o.cut ++ o.last) (o.answered (ruled s before.rules) (f, refl));
    ends = o.ends;
    spent = o.spent;
    front = o.front;
    whole = o.whole;
  }

-- ===== What memory can't fail of a site, it can't fail over lines

asked_may : (rules : List PrefixRule) (s : Site) (line : List ℕ) (actor : Option ℕ) (answer : List ℕ) (t : Site)
    → AskedMay (over_lines site_machine) rules s line actor answer t → AskedMay site_machine rules s line actor answer t
asked_may rules s line (Some actor) answer t may = may
asked_may rules s line None answer t may = shell_may s line answer t may

site_turn : (rules : List PrefixRule) (s : Site) (lines answers : List (List ℕ)) (t : Site) → InTurn (AutoMay (over_lines site_machine) rules) s lines answers t
    → InTurn (AutoMay site_machine rules) s lines answers t
site_turn rules s [] [] t p = p
site_turn rules s (line ∷ lines) (answer ∷ answers) t p = (
  p.0,
  (asked_may rules s line (auto_actor line) answer p.0 p.1.0, site_turn rules p.0 lines answers t p.1.1),
)
site_turn rules s [] (answer ∷ answers) t p = absurd p
site_turn rules s (line ∷ lines) [] t p = absurd p

auto_answered : (rules : List PrefixRule) (shape : List ℕ → List ℕ → List ℕ → Type 0) (To : Site → Type 0) (old new : Option (List ℕ)) (s : Site)
    (lines : List (List ℕ)) → ((t : Site) → To t → IsSound t)
    → AnsweredBy (AutoMay (over_lines site_machine) rules) shape To old new [] [] s lines →
    AnsweredBy (AutoMay site_machine rules) shape IsSound old new [] [] s lines
auto_answered rules shape To old new s lines sound a = record {
  answers = a.answers;
  state = a.state;
  each = site_turn rules s lines a.answers a.state a.each;
  stands = sound a.state a.stands;
  given = a.given;
}

pub auto_from : (site : Site) (rules : List PrefixRule) (From To : Site → Type 0) (status : Status) (old new : Option (List ℕ)) (first left : List ℕ) →
    From site → ((t : Site) → To t → IsSound t)
    → AutoOutcome (over_lines site_machine) rules status From To old new first left → AutoFrom site rules status old new first left
auto_from site rules From To status old new first left here sound o = record {
  cut = o.cut;
  last = o.last;
  held = o.held;
  read = o.read;
  answered = λ s e. auto_answered rules (shape_within 5242945 status) To old new s (o.cut ++ o.last) sound (o.answered s (subst From (sym e) here));
  ends = o.ends;
  spent = o.spent;
  front = o.front;
  whole = o.whole;
}

-- of the site that opened, and the rules with it
pub opened_from : {S : Type 0} (stands : S → Site → Type 0) (core : S) (site : Site) (rules : List PrefixRule) (seen : RuledCore S) →
    seen ≡ record { core = core; rules = rules } → stands core site → (To : Site → Type 0) → ((t : Site) → To t → IsSound t)
    → (status : Status) (old new first left : Option (List ℕ))
    → WhileTold first left (AutoOutcome (over_lines site_machine) seen.rules status (stands seen.core) To old new)
    → WhileTold first left (AutoFrom site rules status old new)
opened_from stands core site rules seen is here To sound status old new first left told =
    weaker first left (AutoOutcome (over_lines site_machine) rules status (stands core) To old new) (AutoFrom site rules status old new)
    (subst (λ v. WhileTold first left (AutoOutcome (over_lines site_machine) v.rules status (stands v.core) To old new)) is told)
    (λ x y o. auto_from site rules (stands core) To status old new x y here sound o)

-- ===== No memory

nothing_given : (old : Option (List ℕ)) → WhileTold old old (λ y z. Whole (y ++ []) (z ++ []) [])
nothing_given None = tt
nothing_given (Some y) = sym (append-nil (y ++ []))

-- a run that had no memory read nothing and gave nothing
pub no_run : (m : PlainMachine Site) (rules : List PrefixRule) (From To : Site → Type 0) (old : Option (List ℕ)) (first : List ℕ) → ((s : Site) → From s → To s)
    → AutoOutcome m rules NoMemory From To old old first first
no_run m rules From To old first stays = record {
  cut = [];
  last = [];
  held = [];
  read = record { whole = refl; each = tt };
  answered = λ s f. record { answers = []; state = s; each = refl; stands = stays s f; given = nothing_given old };
  ends = (refl, refl, refl, refl);
  spent = λ e. absurd (omega (arith, e));
  front = λ all rest cut. (all ++ last_line rest, refl);
  whole = λ all rest cut. tt;
}

pub no_auto : (site : Site) (rules : List PrefixRule) (old : Option (List ℕ)) (first : List ℕ) → IsSound site → AutoFrom site rules NoMemory old old first first
no_auto site rules old first sound = no_run site_machine rules (λ s. s ≡ site) IsSound old first (λ s e. subst (λ z. IsSound z) (sym e) sound)

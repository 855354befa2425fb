-- How lines are answered.
use Rattle.std.proofs.Common.{◌≡◌, ℕ, List, [], ◌∷◌, ◌++◌, Some, None, refl, ap, sym, subst, inl, inr, codes}
use Rattle.site_run.specs.Responses.{Responded}
use Rattle.shell_run.specs.Answers.{over_lines, ShellMay}
use Rattle.plain_site.specs.Site.{Site}
use Rattle.plain_site.specs.Step.{site_machine}
use Rattle.rule_list.specs.declared.rules.PrefixRule.{PrefixRule}
use Rattle.merge_rules.specs.declared.steps.AutoEnd.{AutoEnd}
use Rattle.merge_rules.specs.Auto.{auto_step}
use Rattle.auto_run.specs.AutoLines.{auto_actor, end_line}
use Rattle.auto_run.specs.Answers.{AskedMay, StepAnswers}
use Rattle.auto_run.specs.RuledCores.{RuledCore, StandsForSite}
use Rattle.auto_run.specs.Ruled.{Ruled, RuledStands, RuledMay}

-- the step was done, and its line put
pub stepped : (actor : ℕ) (rules : List PrefixRule) (To : Site → Type 0) (site : Site) (old new : List ℕ) (end : AutoEnd)
    → To (auto_step site actor rules).0 → end ≡ (auto_step site actor rules).1 → new ≡ old ++ (end_line end ++ 10 ∷ []) →
    Responded (StepAnswers actor rules) To site [] old new
stepped actor rules To site old new end stands is put = record {
  answer = end_line end ++ 10 ∷ [];
  state = (auto_step site actor rules).0;
  allowed = inl (ap (λ e. end_line e ++ 10 ∷ []) is, refl);
  stands = stands;
  put = put;
}

-- there was no memory for it
pub wanting : (actor : ℕ) (rules : List PrefixRule) (To : Site → Type 0) (site : Site) (old new : List ℕ)
    → To site → new ≡ old ++ (codes "nomemory" ++ 10 ∷ []) → Responded (StepAnswers actor rules) To site [] old new
wanting actor rules To site old new stands put = record {
  answer = codes "nomemory" ++ 10 ∷ [];
  state = site;
  allowed = inr (refl, refl);
  stands =
      stands;
  put = put;
}

-- what was answered so stands for a site still
pub still-stands : {may : Site → List ℕ → List ℕ → Site → Type 0} {s : Site} {line old new : List ℕ} (stands : Site → Type 0) →
    Responded may stands s line old new → StandsForSite stands
still-stands stands r = record { site = r.state; there = r.stands }

module _ {S : Type 0} (stands : S → Site → Type 0) (now : RuledCore S) (s : Ruled) (line old new : List ℕ) where
  -- an auto line was answered
  pub by_step : (actor : ℕ) → auto_actor line ≡ Some actor → s.rules ≡ now.rules → Responded (StepAnswers actor now.rules) (stands now.core) s.site [] old new
      → Responded RuledMay (RuledStands stands now) s line old new
  by_step actor asked is r = record {
    answer = r.answer;
    state = record s { site = r.state };
    allowed = (
      subst (λ o. AskedMay (over_lines site_machine) s.rules s.site line o r.answer r.state) (sym asked)
          (subst (λ x. StepAnswers actor x s.site line r.answer r.state) (sym is) r.allowed),
      refl,
    );
    stands = (r.stands, is);
    put = r.put;
  }

  -- another line was
  pub by_shell : auto_actor line ≡ None → s.rules ≡ now.rules → Responded (ShellMay (over_lines site_machine)) (stands now.core) s.site line old new
      → Responded RuledMay (RuledStands stands now) s line old new
  by_shell asked is r = record {
    answer = r.answer;
    state = record s { site = r.state };
    allowed = (subst (λ o. AskedMay (over_lines site_machine) s.rules s.site line o r.answer r.state) (sym asked) r.allowed, refl);
    stands = (r.stands, is);
    put = r.put;
  }

-- A site, and the rules by which its leaves are merged.
use Rattle.std.specs.Prelude.{◌≡◌, ℕ, List}
use Rattle.plain_site.specs.Site.{Site}
use Rattle.plain_site.specs.Step.{site_machine}
use Rattle.rule_list.specs.declared.rules.PrefixRule.{PrefixRule}
use Rattle.shell_run.specs.Answers.{over_lines}
use Rattle.auto_run.specs.RuledCores.{RuledCore}
use Rattle.auto_run.specs.Answers.{AutoMay}

-- the plain site, and the rules
pub record Ruled : Type 0 where
  pub site : Site
  pub rules : List PrefixRule

-- it stands for the site, and the rules are these
abbrev pub RuledStands : {S : Type 0} → (S → Site → Type 0) → RuledCore S → Ruled → Type 0
RuledStands stands r s = stands r.core s.site × (s.rules ≡ r.rules)

-- a line may be answered so by the rules, which stay
abbrev pub RuledMay : Ruled → List ℕ → List ℕ → Ruled → Type 0
RuledMay s line answer t = AutoMay (over_lines site_machine) s.rules s.site line answer t.site × (t.rules ≡ s.rules)

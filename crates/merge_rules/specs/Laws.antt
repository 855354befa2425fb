-- Laws of auto steps.
use Rattle.std.specs.Prelude.{◌≡◌, ◌≤◌, ℕ, List, length}
use Rattle.tardis_base.specs.declared.ids.StateId.{StateId}
use Rattle.plain_dag.specs.Forks.{leaves}
use Rattle.plain_site.specs.Site.{Site}
use Rattle.rule_list.specs.declared.rules.PrefixRule.{PrefixRule}
use Rattle.merge_rules.specs.declared.steps.AutoEnd.TheVariants.{Single, Merged}
use Rattle.merge_rules.specs.Auto.{auto_step}

-- what ends as Single found no two leaves
abbrev pub SingleMeansOneLeaf : Type 0
SingleMeansOneLeaf = (site : Site) (n : ℕ) (rules : List PrefixRule) → (auto_step site n rules).1 ≡ Single → length (leaves site.dag) ≤ 1

-- what doesn't end as Merged leaves the site as it was
abbrev pub OnlyMergesChange : Type 0
OnlyMergesChange =
    (site : Site) (n : ℕ) (rules : List PrefixRule) → ((x : StateId) → (auto_step site n rules).1 ≡ Merged x → ⊥) → (auto_step site n rules).0 ≡ site

-- What a site with rules is seen as.
use Rattle.std.specs.Prelude.{List}
use Rattle.plain_site.specs.Site.{Site}
use Rattle.rule_list.specs.declared.rules.PrefixRule.{PrefixRule}

-- the site, and the rules by which its leaves are merged
pub record RuledCore (S : Type 0) : Type 0 where
  pub core : S
  pub rules : List PrefixRule

-- there is a plain site that it stands for
pub record StandsForSite (stands : Site → Type 0) : Type 0 where
  pub site : Site
  pub there : stands site

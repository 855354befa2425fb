-- Sites that tell their counts.
use Rattle.std.specs.Prelude.{ℕ, IsTrue}
use Rattle.tardis_base.specs.declared.records.Limits.{Limits}
use Rattle.tardis_base.specs.Valid.{are_limits, is_within}
use Rattle.site_sync.specs.Asking.{TellsCounts}
use Rattle.plain_site.specs.Site.{opening}
use Rattle.plain_site.specs.Step.{site_machine}

-- a site that opens answers Stat by statistics, whatever was asked before
abbrev pub SitesTellCounts : Type 0
SitesTellCounts = (limits : Limits) (own : ℕ) → IsTrue (are_limits limits) → IsTrue (is_within 1 limits.sites own)
    → TellsCounts site_machine (opening limits own)

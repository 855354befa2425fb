-- What leads on from a site that opens under some limits leads on under larger ones.
use Rattle.std.specs.Prelude.{ℕ, List, IsTrue}
use Rattle.tardis_base.specs.declared.records.Limits.{Limits}
use Rattle.tardis_base.specs.Valid.{is_within, are_limits}
use Rattle.plain_site.specs.Site.{opening}
use Rattle.rest_laws.specs.LimitLaws.{AreWithin}
use Rattle.site_lives.specs.Acquainted.{Acquainted, unacquainted}
use Rattle.site_lives.specs.RestLaws.{all_under}
use Rattle.site_log.specs.Kept.{TakesAll}
use Rattle.site_doors.specs.Kept.{resting}

-- bodies that lead from the site that opens to another lead from the one that opens under larger limits to the same but for these
abbrev pub FilesOpenUnderLargerLimits : Type 0
FilesOpenUnderLargerLimits =
    (limits larger : Limits) (own : ℕ) (bodies : List (List ℕ)) (site : Acquainted) → IsTrue (are_limits limits) →
    IsTrue (is_within 1 limits.sites own) → AreWithin limits larger → TakesAll resting (unacquainted (opening limits own)) bodies site →
    TakesAll resting (unacquainted (opening larger own)) bodies (all_under larger site)

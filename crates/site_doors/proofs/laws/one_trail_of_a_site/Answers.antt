use Rattle.site_doors.specs.Rules.{site_doors}
use Rattle.site_doors.proofs.Seen.{seen_site}
use Rattle.site_doors.proofs.laws.one_trail_of_a_site.Goals as goal

pub returns : goal.returns
returns c = c.one_trail_behind_doors_as_seen.ensures site_doors (λ a. a) seen_site

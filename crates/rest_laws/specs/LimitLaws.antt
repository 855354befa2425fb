-- What a site takes back under some limits, it takes back under larger ones.
use Rattle.std.specs.Prelude.{◌≡◌, ◌≤◌, List, [], ◌∷◌, IsTrue, IsFalse}
use Rattle.tardis_base.specs.declared.records.Limits.{Limits}
use Rattle.tardis_base.specs.declared.records.Item.TheVariants.{State}
use Rattle.tardis_base.specs.Ids.{root}
use Rattle.tardis_base.specs.Valid.{are_limits}
use Rattle.plain_site.specs.Site.{Site, opening}
use Rattle.plain_site.specs.Sound.{IsSound}
use Rattle.plain_site.specs.RowWords.{program_limits, ◌·◌}
use Rattle.plain_site.specs.Rest.{at_rest, Lasting, News, all_fit, replay}
use Rattle.plain_site.specs.RestSpellings.{are_lasting}

-- the site under these limits
abbrev pub under : Limits → Site → Site
under limits site = record site { limits = limits }

-- The others have as many sites, and allow no fewer kept states and no shorter fork paths. How many sessions may be open, and how long
-- a trail may be, is nothing to what a site at rest takes back.
pub record AreWithin (limits larger : Limits) : Type 0 where
  pub sites : limits.sites ≡ larger.sites
  pub kept : limits.max_kept ≤ larger.max_kept
  pub path : limits.max_path ≤ larger.max_path

-- what a sound site at rest takes back, it takes back under larger limits too, and becomes the same but for its limits
abbrev pub LargerLimitsTakeBack : Type 0
LargerLimitsTakeBack = (site : Site) (larger : Limits) (ls : List Lasting) → IsSound (at_rest site) → AreWithin site.limits larger →
    IsTrue (are_lasting ls) → IsTrue (all_fit (at_rest site) ls) →
    IsTrue (all_fit (under larger (at_rest site)) ls) × (replay ls (under larger (at_rest site)) ≡ under larger (replay ls (at_rest site)))

-- a sound site at rest is sound under larger limits that a site may have
abbrev pub LargerLimitsKeepSound : Type 0
LargerLimitsKeepSound = (site : Site) (larger : Limits) → IsSound (at_rest site) → AreWithin site.limits larger → IsTrue (are_limits larger) →
    IsSound (under larger (at_rest site))

-- under smaller limits it may be that something isn't taken back which was under larger ones: here a state beside the root, where one
-- state may be kept
abbrev pub SmallerLimitsMayRefuse : Type 0
SmallerLimitsMayRefuse =
    let larger = program_limits 1 in
    let smaller = record larger { max_kept = 1 } in
    let ls = News (State (record { id = 1 · 1; parents = root ∷ []; writes = [] })) ∷ [] in
    IsTrue (are_limits smaller) × AreWithin smaller larger × IsTrue (are_lasting ls) × IsTrue (all_fit (opening larger 1) ls)
    × IsFalse (all_fit (opening smaller 1) ls)

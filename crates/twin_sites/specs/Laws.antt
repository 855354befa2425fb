-- Twins stand for the same sites.
use Rattle.std.specs.Prelude.{◌≡◌, IsTrue}
use Rattle.plain_site.specs.Site.{Site}
use Rattle.plain_site.specs.Rest.{at_rest}
use Rattle.session_core.specs.Core.{Core}
use Rattle.session_core.specs.Machine.{SiteStands}
use Rattle.twin_sites.specs.Twins.{AreTwinCores, last_commits_stay, with_sessions_of}

-- sites in memory that stand for one site but for what doesn't last of it are twins
abbrev pub CoresOfOneSiteAreTwins : Type 0
CoresOfOneSiteAreTwins = (one other : Core) (s t : Site) → SiteStands one s → SiteStands other t → at_rest s ≡ at_rest t → AreTwinCores one other

-- what stands for a site at rest stands at rest for each site that some site in memory stands for beside that one
abbrev pub SitesOfOneCoreRestAlike : Type 0
SitesOfOneCoreRestAlike = (m n : Core) (s t : Site) → SiteStands m s → SiteStands m t → SiteStands n (at_rest t) → SiteStands n (at_rest s)

-- where the other one of two twins stands for a site at rest, it stands for each site at rest that the one stands for
abbrev pub TwinsRestAlike : Type 0
TwinsRestAlike =
    (one other : Core) (s t : Site) → SiteStands one s → SiteStands other (at_rest t) → AreTwinCores one other → SiteStands other (at_rest s)

-- the one stands for each site that the other stands for, with its own sessions, where their last commits stay
abbrev pub TwinsStandWithSessions : Type 0
TwinsStandWithSessions =
    (one other : Core) (s t : Site) → SiteStands one s → SiteStands other t → AreTwinCores one other → IsTrue (last_commits_stay one) →
    SiteStands one (with_sessions_of s t)

-- whatever sessions a site has, at rest it is the same
abbrev pub SessionsDontLast : Type 0
SessionsDontLast = (s t : Site) → at_rest (with_sessions_of s t) ≡ at_rest t

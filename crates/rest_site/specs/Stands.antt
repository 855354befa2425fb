-- When a site in memory, with the lives that it knows and what is loaded of a checkpoint, stands for one of the model.
use Rattle.std.specs.Prelude.{◌≡◌, Option, Some, None}
use Rattle.tardis_base.specs.declared.records.Limits.{Limits}
use Rattle.plain_checkpoint.specs.Checkpoints.{Told, untold}
use Rattle.plain_site.specs.Site.{Site}
use Rattle.site_lives.specs.Lives.{Lives}
use Rattle.site_lives.specs.Acquainted.{Acquainted, unacquainted}
use Rattle.site_checkpoint.specs.Loaded.{Loaded}
use Rattle.site_checkpoint.specs.Stands.{LoadedStands}
use Rattle.session_core.specs.Core.{Core}
use Rattle.session_core.specs.Machine.{SiteStands, opened_with}

-- a site in memory, the lives that it knows, and what is loaded of a checkpoint whose end was not told yet
pub record HeldSite : Type 0 where
  pub core : Core
  pub lives : Lives
  pub loading : Option Loaded

abbrev pub held_site : Core → Lives → Option Loaded → HeldSite
held_site core lives loading = record { core = core; lives = lives; loading = loading }

-- where nothing is loaded nothing was told; else what is loaded stands for what was told, under the site's limits
abbrev pub LoadingStands : Limits → Option Loaded → Told → Type 0
LoadingStands limits None t = t ≡ untold
LoadingStands limits (Some loaded) t = LoadedStands loaded t × (loaded.store.table.limits ≡ limits)

-- it stands for this site, which is sound, knows the same lives, and was told as much of a checkpoint
abbrev pub AcquaintedStands : HeldSite → Acquainted → Type 0
AcquaintedStands held a = SiteStands held.core a.site × (held.lives ≡ a.lives) × LoadingStands a.site.limits held.loading a.told

-- the site with which it opened, which knew no life and was told nothing
abbrev pub opened_alone : HeldSite → Acquainted
opened_alone held = unacquainted (opened_with held.core)

-- the site in memory stands for some sound one, and what is loaded for what was told under the limits of that
pub record StandsForSome (core : Core) (loading : Option Loaded) : Type 0 where
  pub site : Site
  pub told : Told
  pub stands : SiteStands core site
  pub loads : LoadingStands site.limits loading told

-- What is served from a site that is kept in a file.
use Rattle.std.specs.Prelude.{◌≡◌, ℕ, List, map, Option}
use Rattle.tardis_io.specs.Faults.{Rose}
use Rattle.disk_store.specs.declared.disks.Disk.{Ghosts as ADisk}
use Rattle.daemon_words.specs.Daemons.{Daemon, daemon_limits}
use Rattle.hub.specs.declared.ports.Seen.{Seen}
use Rattle.hub.specs.declared.serves.End.{End}
use Rattle.hub.specs.Settlings.{PlainSettling, behind_doors}
use Rattle.hub.specs.Doors.{seen_through}
use Rattle.hub.specs.Runs.{IsRun}
use Rattle.log_groups.specs.declared.fronts.LogFront.{LogFront}
use Rattle.plain_site.specs.Sound.{IsSound}
use Rattle.site_lives.specs.Acquainted.{Acquainted}
use Rattle.site_lives.specs.Things.{all_at_rest}
use Rattle.site_lives.specs.Bytes.{TakesBack}
use Rattle.rest_site.specs.Stands.{HeldSite, AcquaintedStands}
use Rattle.site_log.specs.declared.ends.OpenEnd.{OpenEnd}
use Rattle.site_log.specs.declared.ends.OpenEnd.TheVariants.{Disk as DiskFailed, NotALog, OtherVersion, BadFront, OtherSite, OtherLimits, Damaged, Unfit, NoMemory}
use Rattle.site_log.specs.declared.opens.FoundLog.{FoundLog}
use Rattle.site_log.specs.Kept.{Kept, IsSettled, with_settle, starts, logged, TakesAll}
use Rattle.site_log.specs.Images.{joined, Mark, IsSafe}
use Rattle.site_log.specs.Reads.{IsWanted}
use Rattle.site_log.specs.Opens.{Finds, OpeningLeaves, IsRefused as IsLogRefused}
use Rattle.site_doors.specs.Kept.{resting, kept_doors}
use Rattle.tardisd_main.specs.declared.endings.FileFault.TheVariants.{Disk as DiskFails, NotALog as IsNoLog, OtherVersion as IsOtherVersion, BadFront as HasBadFront, OtherSite as IsOtherSite, OtherLimits as HasOtherLimits, Damaged as IsDamagedAt, Unfit as IsUnfitAt}
use Rattle.tardisd_main.specs.declared.endings.DaemonEnd.{DaemonEnd}
use Rattle.tardisd_main.specs.declared.endings.DaemonEnd.TheVariants.{NoMemory as WantedMemory, File}
use Rattle.tardisd_main.specs.Sites.{upkeep_rule, scope_of, begin_life, opens_at}

-- what the file of the site that is asked for says first, and, where it is new, of which life it is
abbrev pub front_at : Daemon → List ℕ → LogFront
front_at asked life =
    let limits = daemon_limits asked in
    record { sites = limits.sites; own = asked.place.site; max_kept = limits.max_kept; max_path = limits.max_path; max_sessions = limits.max_sessions; life = life }

-- the site with what lasted of its requests, behind its doors, which settles by putting that into its file
abbrev pub kept_site : PlainSettling (Kept Acquainted)
kept_site = behind_doors (logged resting) (seen_through (logged resting) kept_doors) IsSettled with_settle

-- the site that was found with these bodies, once it was asked to begin this life; one that has a life keeps it
abbrev pub begun : Acquainted → List (List ℕ) → (life : List ℕ) → Kept Acquainted
begun site bodies life = (logged resting).step (starts site bodies) (begin_life life)

-- how a server ends whose log isn't opened
abbrev pub not_opened : OpenEnd → DaemonEnd
not_opened NotALog = File IsNoLog
not_opened (OtherVersion version) = File (IsOtherVersion version)
not_opened BadFront = File HasBadFront
not_opened (OtherSite front) = File (IsOtherSite (record { sites = front.sites; site = front.own }))
not_opened (OtherLimits front) = File (HasOtherLimits front.max_kept front.max_sessions)
not_opened (Damaged place) = File (IsDamagedAt place)
not_opened (Unfit place) = File (IsUnfitAt place)
not_opened NoMemory = WantedMemory
not_opened DiskFailed = File DiskFails

module _ {K : Type 0} (k : ADisk K) where
  -- The log on a disk wasn't opened. Unless a call of the disk failed, it was only read, and what it reads is why: it has no log that
  -- leads on from the site that is asked for; or memory was wanting. Whatever failed, a crash left what was there.
  pub record IsRefused (asked : Daemon) (life : List ℕ) (disk back : K) (end : DaemonEnd) : Type 0 where
    pub why : OpenEnd
    pub tells : end ≡ not_opened why
    pub bytes : (site : HeldSite) × (AcquaintedStands site (opens_at asked) × IsLogRefused resting k site disk (front_at asked life) why back)
    pub cause : why ≡ DiskFailed → Rose (k.faults disk) (k.faults back)
    pub safe : k.honest disk → OpeningLeaves k disk back (front_at asked life)

  -- A site was found on a disk: what its file was found to be, the bodies in it, and the site to which they lead from the one that
  -- opens as is asked for.
  pub record IsFound (asked : Daemon) (life : List ℕ) (disk : K) (found : FoundLog) (bodies : List (List ℕ)) (site : Acquainted) : Type 0 where
    pub held : k.honest disk → Finds (k.reads disk) (front_at asked life) found bodies
    pub wanted : IsWanted found.front (front_at asked life)
    pub taken : TakesAll resting (opens_at asked) bodies site
    pub between : K
    pub safe : k.honest disk → OpeningLeaves k disk between (front_at asked life)

  -- A disk keeps what lasted of a site that opened as is asked for: what lasted leads from there to the site at rest. There is a moment
  -- for each time that all was settled, and each image that a crash might have left from then on holds, in a log of this front, what
  -- brings at least what had lasted by then, and nothing but what lasted, in order.
  pub record Keeps (asked : Daemon) (disk : K) (front : LogFront) (kept : Kept Acquainted) : Type 0 where
    pub sound : IsSound kept.state.site
    pub led : TakesBack (opens_at asked) (joined kept.things) (all_at_rest kept.state)
    pub marks : List Mark
    pub counts : map (λ mark. mark.count) marks ≡ kept.settles
    pub safe : k.honest disk → IsSafe resting k (opens_at asked) disk front kept.things marks

  -- A site that was found on a disk was served: a run of a hub from there on, once it was asked to begin this life, with the upkeep, the
  -- connections and the peers that are asked for and what the edge saw, in which nothing is told before the disk keeps it.
  abbrev pub ServesFile : Daemon → (life : List ℕ) → LogFront → List (List ℕ) → Acquainted → K → End → (before after : Option (List Seen)) → Type 0
  ServesFile asked life front bodies site back end before after =
      IsRun kept_site (upkeep_rule asked.tidy asked.rules asked.join_after asked.every) (scope_of asked) (λ kept. Keeps asked back front kept) (begun site bodies life) end before after

-- What is told of a file that is checked.
use Rattle.std.specs.Prelude.{◌≡◌, ◌⊎◌, ◌<◌, ℕ, true, false, List, [], length, drop, bytes_eq, Err}
use Rattle.std.specs.List.{IsDistinct}
use Rattle.tardis_base.specs.declared.records.Limits.{Limits}
use Rattle.tardis_base.specs.Sizes.{most_kept, most_pairs, most_sessions, longest_trail}
use Rattle.tardis_base.specs.Keys.{is_key_among}
use Rattle.tardis_io.specs.declared.faults.Failed.{Failed}
use Rattle.tardis_io.specs.Faults.{Rose}
use Rattle.disk_store.specs.declared.disks.Disk.{Ghosts as ADisk}
use Rattle.disk_store.specs.declared.stores.Store.{Ghosts as AStore}
use Rattle.disk_store.specs.Stores.{Refuses as GivesNone, FindsHeld}
use Rattle.command_words.specs.declared.commands.Place.{Place}
use Rattle.command_words.specs.Places.{IsPlace}
use Rattle.log_groups.specs.declared.fronts.LogFront.{LogFront}
use Rattle.log_groups.specs.Logs.{Holds}
use Rattle.plain_dag.specs.Forks.{leaves}
use Rattle.plain_dag.specs.Collection.{kept_states}
use Rattle.record_store.specs.Stands.{held_reads}
use Rattle.plain_site.specs.Site.{Site, opening}
use Rattle.site_lives.specs.Acquainted.{Acquainted, unacquainted}
use Rattle.rest_site.specs.Stands.{HeldSite, AcquaintedStands}
use Rattle.site_log.specs.declared.ends.OpenEnd.{OpenEnd}
use Rattle.site_log.specs.declared.ends.OpenEnd.TheVariants.{BadFront}
use Rattle.site_log.specs.declared.replays.Found.{Found}
use Rattle.site_log.specs.Kept.{TakesAll}
use Rattle.site_log.specs.Files.{text_of}
use Rattle.site_log.specs.Replays.{ending_of}
use Rattle.site_log.specs.Reads.{HasLimitsWithin, HasFront, Refuses}
use Rattle.site_log.specs.News.{IsNew}
use Rattle.site_log.specs.Opens.{WasRead}
use Rattle.site_log.specs.Firsts.{TellsFirst}
use Rattle.site_doors.specs.Kept.{resting}
use Rattle.tardisd_main.specs.declared.checks.CheckedLog.{CheckedLog}
use Rattle.tardisd_main.specs.declared.checks.FileCheck.TheVariants.{New, Log}
use Rattle.tardisd_main.specs.declared.endings.FileFault.TheVariants.{InUse, Refused, Disk as DiskFails}
use Rattle.tardisd_main.specs.declared.endings.DaemonEnd.{DaemonEnd}
use Rattle.tardisd_main.specs.declared.endings.DaemonEnd.TheVariants.{Checked, File}
use Rattle.tardisd_main.specs.Files.{not_opened}
use Rattle.tardisd_main.specs.Stores.{OpenedAndBack}

-- whose log a front says that it is
abbrev pub place_in : LogFront → Place
place_in front = record { sites = front.sites; site = front.own }

-- the largest limits that a site may have, of so many sites
abbrev pub widest_limits : ℕ → Limits
widest_limits sites = record { sites = sites; max_kept = most_kept; max_path = most_pairs; max_sessions = most_sessions; max_trail = longest_trail }

-- the front of the same site's log, in the same life, under these
abbrev pub widest : LogFront → LogFront
widest front = record { sites = front.sites; own = front.own; max_kept = most_kept; max_path = most_pairs; max_sessions = most_sessions; life = front.life }

-- the site that opens so, and knows no life
abbrev pub opens_widest : LogFront → Acquainted
opens_widest front = unacquainted (opening (widest_limits front.sites) front.own)

-- what is told of a log that was read, in a file of so many bytes
pub record TellsLog (found : Found) (file_size : ℕ) (log : CheckedLog) : Type 0 where
  pub place : log.place ≡ place_in found.front
  pub life : log.life ≡ found.front.life
  pub states : log.states ≡ found.front.max_kept
  pub path : log.path ≡ found.front.max_path
  pub sessions : log.sessions ≡ found.front.max_sessions
  pub groups : log.groups ≡ found.number
  pub bytes : log.bytes ≡ found.place
  pub size : log.size ≡ file_size
  pub torn : log.is_torn ≡ found.torn

-- what is told of the site to which it leads: how many states are known, are kept and have no child; and how many keys are listed, behind
-- which no kept state holds another
pub record TellsSite (site : Site) (log : CheckedLog) : Type 0 where
  pub known : log.known ≡ length site.dag
  pub kept : log.kept ≡ length (kept_states site.dag site.collected)
  pub leaves : log.leaves ≡ length (leaves site.dag)
  pub listed : List (List ℕ)
  pub keys : log.keys ≡ length listed
  pub distinct : IsDistinct bytes_eq listed
  pub others : (k : List ℕ) → is_key_among k listed ≡ false → held_reads site.dag site.collected k ≡ []

-- The bytes hold the log of these bodies, which lead from the site that opens under the largest limits to this one; and what is told is so
-- of both.
pub record IsChecked (bytes : List ℕ) (log : CheckedLog) : Type 0 where
  pub found : Found
  pub bodies : List (List ℕ)
  pub site : Acquainted
  pub held : Holds bytes found.front bodies (drop found.place bytes) (ending_of found.torn)
  pub at : found.place ≡ length (text_of found.front bodies)
  pub number : found.number ≡ length bodies
  pub is_place : IsPlace (place_in found.front)
  pub within : HasLimitsWithin found.front (widest found.front)
  pub taken : TakesAll resting (opens_widest found.front) bodies site
  pub of_log : TellsLog found (length bytes) log
  pub of_site : TellsSite site.site log

-- Why a file isn't good: what stands first in it is no front, or one that names no place; or no site leads on from there by its groups, even
-- under the largest limits; or memory was wanting.
abbrev pub IsSpoiled : List ℕ → OpenEnd → Type 0
IsSpoiled bytes why =
    TellsFirst bytes (Err why)
    ⊎ ((front : LogFront) × (HasFront bytes front × (((IsPlace (place_in front) → ⊥) × (why ≡ BadFront))
    ⊎ ((site : HeldSite) × (AcquaintedStands site (opens_widest front) × Refuses resting site bytes (widest front) why)))))

-- what is told of the bytes of a file; a file that isn't good is told as a start tells that it doesn't open
abbrev pub TellsBytes : List ℕ → DaemonEnd → Type 0
TellsBytes bytes (Checked New) = IsNew bytes
TellsBytes bytes (Checked (Log log)) = IsChecked bytes log
TellsBytes bytes end = (why : OpenEnd) × ((end ≡ not_opened why) × IsSpoiled bytes why)

-- A disk was only read, and what is told is so of the bytes that it reads; or it failed.
pub record IsRead {K : Type 0} (k : ADisk K) (disk back : K) (end : DaemonEnd) : Type 0 where
  pub read : k.honest disk → WasRead k disk back
  pub told : ((bytes : List ℕ) × ((k.honest disk → bytes ≡ k.reads disk) × TellsBytes bytes end))
      ⊎ ((end ≡ File DiskFails) × Rose (k.faults disk) (k.faults back))

module _ {S K : Type 0} (st : AStore S K) (k : ADisk K) (path : List ℕ) (was now : S) (end : DaemonEnd) where
  -- The store was asked for the disk at the path alone, and gave none, since somebody else has it or for another reason.
  pub record NotFound : Type 0 where
    pub end_is : ((end ≡ File InUse) × (st.locked now ≡ true)) ⊎ ((end ≡ File Refused) × (st.locked now ≡ false))
    pub cause : Rose (st.faults was) (st.faults now)
    pub told : GivesNone path (st.told was) (st.told now)
    pub held : (e : Failed) × FindsHeld path (st.told was) (st.locked now) (Err e)

  -- The store gave the disk at the path, which is honest where the store is. It was only read, and was put back.
  pub record WasChecked : Type 0 where
    pub disk : K
    pub back : K
    pub handled : OpenedAndBack path (st.told was) (st.told now) disk back
    pub is_honest : st.honest was → k.honest disk
    pub counted : 0 < k.faults back → Rose (st.faults was) (st.faults now)
    pub is_read : IsRead k disk back end

  -- what becomes of the file at a path that is to be checked
  pub record ChecksAs : Type 0 where
    pub became : NotFound ⊎ WasChecked
    pub still : st.honest was → st.honest now

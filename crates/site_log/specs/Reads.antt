-- Why the bytes of a file aren't the log that is wanted.
use Rattle.std.specs.Prelude.{◌≡◌, ℕ, ◌≤◌, List, [], ◌++◌, Result, Ok, Err}
use Rattle.rest_machine.specs.declared.resting.Resting.{Ghosts as AResting}
use Rattle.log_groups.specs.declared.fronts.LogFront.{LogFront}
use Rattle.log_groups.specs.declared.readers.FirstItem.TheVariants.{NotALog as FirstNotALog, OtherVersion as FirstOtherVersion, BadFront as FirstBadFront}
use Rattle.log_groups.specs.Items.{IsFront}
use Rattle.log_groups.specs.Steps.{IsFirst}
use Rattle.site_log.specs.declared.ends.OpenEnd.{OpenEnd}
use Rattle.site_log.specs.declared.ends.OpenEnd.TheVariants.{NotALog, OtherVersion, BadFront, OtherSite, OtherLimits, Damaged, Unfit, NoMemory, Disk}
use Rattle.site_log.specs.Files.{text_of}
use Rattle.site_log.specs.Replays.{IsDamaged, IsUnfit}

-- both are of one site
abbrev pub IsSameSite : LogFront → LogFront → Type 0
IsSameSite front wanted = (front.sites ≡ wanted.sites) × (front.own ≡ wanted.own)

-- none of the limits is larger than the wanted one
abbrev pub HasLimitsWithin : LogFront → LogFront → Type 0
HasLimitsWithin front wanted =
    (front.max_kept ≤ wanted.max_kept) × (front.max_path ≤ wanted.max_path) × (front.max_sessions ≤ wanted.max_sessions)

-- a front is of the wanted site, of whatever life, and of limits that are no larger than the wanted ones
abbrev pub IsWanted : LogFront → LogFront → Type 0
IsWanted front wanted = IsSameSite front wanted × HasLimitsWithin front wanted

-- what a comparison answers, which is told the front that stands there
abbrev pub Compares : LogFront → LogFront → Result (Unit {0}) OpenEnd → Type 0
Compares front wanted (Ok _) = IsWanted front wanted
Compares front wanted (Err (OtherSite other)) = (other ≡ front) × (IsSameSite front wanted → ⊥)
Compares front wanted (Err (OtherLimits other)) = (other ≡ front) × IsSameSite front wanted × (HasLimitsWithin front wanted → ⊥)
Compares front wanted (Err _) = ⊥

-- bytes begin with this front
abbrev pub HasFront : List ℕ → LogFront → Type 0
HasFront bytes front = IsFront front × ((more : List ℕ) × (bytes ≡ text_of front [] ++ more))

module _ {M : Type 0} (m : AResting M) where
  -- why a log of a front isn't taken, by what stands in its bytes
  abbrev pub WantedEnd : M → List ℕ → LogFront → LogFront → OpenEnd → Type 0
  WantedEnd old bytes front wanted (OtherSite other) = (other ≡ front) × (IsSameSite front wanted → ⊥)
  WantedEnd old bytes front wanted (OtherLimits other) = (other ≡ front) × IsSameSite front wanted × (HasLimitsWithin front wanted → ⊥)
  WantedEnd old bytes front wanted (Damaged place) = IsWanted front wanted × IsDamaged m old bytes front place
  WantedEnd old bytes front wanted (Unfit place) = IsWanted front wanted × IsUnfit m old bytes front place
  WantedEnd old bytes front wanted NoMemory = Unit {0}
  WantedEnd old bytes front wanted _ = ⊥

  -- why bytes aren't taken as the wanted log, by what stands in them
  abbrev pub Refuses : M → List ℕ → LogFront → OpenEnd → Type 0
  Refuses old bytes wanted NotALog = IsFirst bytes FirstNotALog
  Refuses old bytes wanted (OtherVersion version) = IsFirst bytes (FirstOtherVersion version)
  Refuses old bytes wanted BadFront = IsFirst bytes FirstBadFront
  Refuses old bytes wanted (OtherSite front) = HasFront bytes front × (IsSameSite front wanted → ⊥)
  Refuses old bytes wanted (OtherLimits front) = HasFront bytes front × IsSameSite front wanted × (HasLimitsWithin front wanted → ⊥)
  Refuses old bytes wanted (Damaged place) = (front : LogFront) × (HasFront bytes front × IsWanted front wanted × IsDamaged m old bytes front place)
  Refuses old bytes wanted (Unfit place) = (front : LogFront) × (HasFront bytes front × IsWanted front wanted × IsUnfit m old bytes front place)
  Refuses old bytes wanted NoMemory = Unit {0}
  Refuses old bytes wanted Disk = ⊥

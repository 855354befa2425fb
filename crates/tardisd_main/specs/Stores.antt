-- How a server ends whose site is kept in a file.
use Rattle.std.specs.Prelude.{◌≡◌, ℕ, ◌<◌, ◌⊎◌, true, false, List, Option, Result, Ok, Err}
use Rattle.tardis_io.specs.declared.faults.Failed.{Failed}
use Rattle.tardis_io.specs.Faults.{Rose}
use Rattle.disk_store.specs.declared.disks.Disk.{Ghosts as ADisk}
use Rattle.disk_store.specs.declared.stores.Store.{Ghosts as AStore}
use Rattle.disk_store.specs.Stores.{ToldStore, Opens, Refuses, FindsHeld, with_back}
use Rattle.daemon_words.specs.Daemons.{Daemon}
use Rattle.hub.specs.declared.ports.Seen.{Seen}
use Rattle.hub.specs.declared.serves.End.{End}
use Rattle.log_groups.specs.declared.fronts.LogFront.{LogFront}
use Rattle.site_lives.specs.Acquainted.{Acquainted}
use Rattle.site_log.specs.declared.opens.FoundLog.{FoundLog}
use Rattle.site_log.specs.Kept.{starts}
use Rattle.tardisd_main.specs.declared.endings.GateFault.{GateFault}
use Rattle.tardisd_main.specs.declared.endings.FileFault.TheVariants.{InUse, Refused}
use Rattle.tardisd_main.specs.declared.endings.DaemonEnd.{DaemonEnd}
use Rattle.tardisd_main.specs.declared.endings.DaemonEnd.TheVariants.{NoMemory, Gate, File}
use Rattle.tardisd_main.specs.Ends.{end_by}
use Rattle.tardisd_main.specs.Files.{begun, IsRefused, IsFound, Keeps, ServesFile}

-- Where the store tells its disk, that disk stands at this path: the one was handed out, and the other was put back.
abbrev pub OpenedAndBack : {K : Type 0} → List ℕ → Option (ToldStore K) → Option (ToldStore K) → K → K → Type 0
OpenedAndBack {K} path old new disk back = (out : Option (ToldStore K)) × (Opens path old out (Ok disk) × (new ≡ with_back out back))

module _ {P K : Type 0} (seen : P → Option (List Seen)) (k : ADisk K) (asked : Daemon) (life : List ℕ) (end : DaemonEnd) where
  -- A site that was found on a disk was served from there on over an edge; or there was no memory for that, or to have it begin its life.
  -- The disk keeps what lasted.
  abbrev pub ServedOver : LogFront → List (List ℕ) → Acquainted → K → P → Type 0
  ServedOver front bodies site back ports =
      ((end ≡ NoMemory) × (Keeps k asked back front (starts site bodies) ⊎ Keeps k asked back front (begun site bodies life)))
      ⊎ ((left : P) × (why : End) × ServesFile k asked life front bodies site back why (seen ports) (seen left) × (end ≡ end_by why))

  -- what becomes of an edge that was asked to open for such a site
  abbrev pub EndsKept : LogFront → List (List ℕ) → Acquainted → K → Result P GateFault → Type 0
  EndsKept front bodies site back (Ok ports) = ServedOver front bodies site back ports
  EndsKept front bodies site back (Err fault) = (end ≡ Gate fault) × Keeps k asked back front (starts site bodies)

module _ {P K : Type 0} (opens : Daemon → Result P GateFault → Type 0) (seen : P → Option (List Seen)) (k : ADisk K) (asked : Daemon) (life : List ℕ)
    (end : DaemonEnd) where
  -- the edge was asked to open as was asked for, and this became of it
  abbrev pub GoesOn : LogFront → List (List ℕ) → Acquainted → K → Type 0
  GoesOn front bodies site back = (opened : Result P GateFault) × (opens asked opened × EndsKept seen k asked life end front bodies site back opened)

  -- A site was found on a disk, and only then the edge was asked to open.
  pub record ServedFrom (disk back : K) : Type 0 where
    pub found : FoundLog
    pub bodies : List (List ℕ)
    pub site : Acquainted
    pub is_found : IsFound k asked life disk found bodies site
    pub goes_on : GoesOn found.front bodies site back

module _ {D P S K : Type 0} (opens : Daemon → Result P GateFault → Type 0) (seen : P → Option (List Seen)) (st : AStore S K) (k : ADisk K)
    (life : List ℕ) (asked : Daemon) (path : List ℕ) (old new : D) (was now : S) (end : DaemonEnd) where
  -- There was no memory for the words or the site, and nothing was asked of the store and of the edge.
  pub record NothingAsked : Type 0 where
    pub end_is : end ≡ NoMemory
    pub no_edge : new ≡ old
    pub no_file : now ≡ was

  -- The store was asked for the disk at the path alone, and gave none, since somebody else has it or for another reason. The edge wasn't
  -- asked.
  pub record NoFile : Type 0 where
    pub end_is : ((end ≡ File InUse) × (st.locked now ≡ true)) ⊎ ((end ≡ File Refused) × (st.locked now ≡ false))
    pub cause : Rose (st.faults was) (st.faults now)
    pub told : Refuses path (st.told was) (st.told now)
    pub held : (e : Failed) × FindsHeld path (st.told was) (st.locked now) (Err e)
    pub no_edge : new ≡ old

  -- The store opened the disk at the path, which is honest where the store is. Its log was refused, and then the edge wasn't asked; or
  -- the site was served from it. The disk was put back as it was left.
  pub record WithFile : Type 0 where
    pub disk : K
    pub back : K
    pub handled : OpenedAndBack path (st.told was) (st.told now) disk back
    pub is_honest : st.honest was → k.honest disk
    pub counted : 0 < k.faults back → Rose (st.faults was) (st.faults now)
    pub became : (IsRefused k asked life disk back end × (new ≡ old)) ⊎ ServedFrom opens seen k asked life end disk back

  -- how a server ends whose site is kept in the file at the path
  pub record KeepsAs : Type 0 where
    pub became : NothingAsked ⊎ (NoFile ⊎ WithFile)
    pub still : st.honest was → st.honest now

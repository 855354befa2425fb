-- How the command of a durable site ends.
use Rattle.std.specs.Prelude.{◌≡◌, ◌⊎◌, ℕ, ◌<◌, List, length, Option, Some, None}
use Rattle.tardis_io.specs.declared.statuses.Status.{Status}
use Rattle.tardis_io.specs.declared.statuses.Status.TheVariants.{DiskFault, NoMemory}
use Rattle.tardis_io.specs.Told.{WhileTold}
use Rattle.tardis_io.specs.Faults.{Rose}
use Rattle.frame_cut.specs.Frames.{IsCut}
use Rattle.tardis_io.specs.declared.streams.Source.{Ghosts as ASource}
use Rattle.tardis_io.specs.declared.streams.Sink.{Ghosts as ASink}
use Rattle.tardis_io.specs.declared.duplexes.Duplex.{Ghosts as ADuplex}
use Rattle.disk_store.specs.declared.disks.Disk.{Ghosts as ADisk}
use Rattle.disk_store.specs.declared.stores.Store.{Ghosts as AStore}
use Rattle.disk_store.specs.Stores.{ToldStore, Refuses}
use Rattle.plain_site.specs.Site.{Site}
use Rattle.plain_site.specs.Step.{site_machine}
use Rattle.site_run.specs.Endings.{EndsAs, IsRunEnd, most_taken}
use Rattle.site_commands.specs.Ends.{UnlessFaulty}
use Rattle.durable_run.specs.Ends.{as_in_midst, NotOpened, RanOn, RanPromptly, source_of}

-- Where the store tells its disk, that disk stands at this path: the one is that which stood within, the other was put back,
-- and no other path was asked for.
abbrev pub OpenedAndBack : {K : Type 0} → List ℕ → Option (ToldStore K) → Option (ToldStore K) → K → K → Type 0
OpenedAndBack path None None disk back = Unit {0}
OpenedAndBack path (Some old) (Some new) disk back =
    (path ≡ old.at) × (old.within ≡ Some disk) × (new ≡ record { at = old.at; within = None; back = Some back; out = 0; elsewhere = old.elsewhere })
OpenedAndBack path None (Some new) disk back = ⊥
OpenedAndBack path (Some old) None disk back = ⊥

module _ {S K I O : Type 0} (st : AStore S K) (k : ADisk K) (i : ASource I) (o : ASink O) (path : List ℕ) (before after : S) (old new : I) (was now : O) where
  -- No disk was opened, and nothing was read or written: memory was wanting, and the store wasn't asked, or it was asked for
  -- this path alone, and failed.
  pub record NoDisk (status : Status) : Type 0 where
    pub cause : ((status ≡ NoMemory) × (after ≡ before))
        ⊎ ((status ≡ DiskFault) × Rose (st.faults before) (st.faults after) × Refuses path (st.told before) (st.told after))
    pub unread : new ≡ old
    pub unwritten : now ≡ was

  -- The store opened the disk at this path, which is honest where the store is; the site ran over it; and it was put back as
  -- the run left it.
  pub record RanOver (Run : K → K → Type 0) : Type 0 where
    pub disk : K
    pub back : K
    pub handled : OpenedAndBack path (st.told before) (st.told after) disk back
    pub is_honest : st.honest before → k.honest disk
    pub run : Run disk back

  -- How the command ends, whose run over a disk comes to this. Where no fault came and the input is short enough, its one cut
  -- decides the status, unless there was no memory. With no memory nothing was read or written.
  pub record EndsBy (Run : K → K → Type 0) (status : Status) : Type 0 where
    pub outcome : NoDisk status ⊎ RanOver Run
    pub exact : WhileTold (i.left old) (i.left new) (λ first rest_now. (all : List (List ℕ)) (rest : List ℕ)
        → IsCut first all rest → length first < most_taken → (Rose (st.faults before) (st.faults after) → ⊥)
        → UnlessFaulty i.left i.faults o.faults old new was now (EndsAs rest status))
    pub end : IsRunEnd (as_in_midst status)
    pub still : st.honest before → st.honest after
    pub nothing : status ≡ NoMemory → (new ≡ old) × (now ≡ was)

  -- for a site that opens so, and whose journal may have so many bytes
  abbrev pub DurableEnds : Site → ℕ → Status → Type 0
  DurableEnds site most status = EndsBy (λ disk back. NotOpened site_machine k i o status disk back old new was now
      ⊎ RanOn site_machine k i o site most status disk back old new was now) status

-- the same over one device, where no reply is kept back
abbrev pub PromptEnds : {S K D : Type 0} → AStore S K → ADisk K → ADuplex D → ASink D → List ℕ → S → S → D → D → Site → ℕ → Status → Type 0
PromptEnds st k d o path before after old new site most status = EndsBy st k (source_of d) o path before after old new old new
    (λ disk back. NotOpened site_machine k (source_of d) o status disk back old new old new
    ⊎ RanPromptly site_machine k d o site most status disk back old new) status

-- How a durable run ends.
use Rattle.std.specs.Prelude.{◌≡◌, ◌⊎◌, ℕ, List, [], ◌++◌, Option}
use Rattle.std.specs.List.{concat}
use Rattle.tardis_base.specs.Plain.{PlainMachine}
use Rattle.tardis_io.specs.declared.statuses.Status.{Status}
use Rattle.tardis_io.specs.declared.statuses.Status.TheVariants.{DiskFault, WriteFault, NoMemory}
use Rattle.tardis_io.specs.Told.{WhileTold}
use Rattle.site_journal.specs.Texts.{HasEntries, HasAllOrNone}
use Rattle.site_journal.specs.Moments.{WasRead}
use Rattle.site_journal.specs.Opened.{Mends}
use Rattle.site_run.specs.Responses.{InTurn}
use Rattle.site_run.specs.Endings.{Outcome, shape_of}
use Rattle.durable_run.specs.Replies.{MayAnswer, HasFront}
use Rattle.durable_run.specs.Groups.{Start}
use Rattle.durable_run.specs.Prompt.{IsPrompt}
use Rattle.tardis_io.specs.declared.streams.Source.{Ghosts as ASource}
use Rattle.tardis_io.specs.declared.streams.Sink.{Ghosts as ASink}
use Rattle.tardis_io.specs.declared.duplexes.Duplex.{Ghosts as ADuplex}
use Rattle.disk_store.specs.declared.disks.Disk.{Ghosts as ADisk}

-- a disk that fails ends a run in its midst, as a sink that fails does
abbrev pub as_in_midst : Status → Status
as_in_midst DiskFault = WriteFault
as_in_midst status = status

module _ {S K : Type 0} (plain : PlainMachine S) (k : ADisk K) where
  -- Since the start these bodies were answered in turn. All answers to the first of them were written, or a front where the
  -- sink failed, and their entries are in each image that a crash may leave. The rest are a group whose entries went to the
  -- disk when it failed, and are there all or none; no answer to them was written.
  pub record Durable (status : Status) (at : Start S K) (disk : K) (given : Option (List ℕ)) (bodies : List (List ℕ)) : Type 0 where
    pub written : List (List ℕ)
    pub grouped : List (List ℕ)
    pub parts : bodies ≡ written ++ grouped
    pub answers : List (List ℕ)
    pub others : List (List ℕ)
    pub entries : List (List ℕ)
    pub staged : List (List ℕ)
    pub each : InTurn (MayAnswer plain at.state at.most) at.entries written answers entries
    pub told : WhileTold at.given given (λ y z. shape_of status y z (concat answers))
    pub waiting : InTurn (MayAnswer plain at.state at.most) entries grouped others (entries ++ staged)
    pub whole : (status ≡ DiskFault → ⊥) → (grouped ≡ []) × (staged ≡ [])
    pub images : k.honest at.disk → (image : List ℕ) → k.may_leave disk image → HasAllOrNone entries staged image
    pub any_moment : k.honest at.disk → Mends k at.disk disk (HasFront at.entries (entries ++ staged))

  module _ {I O : Type 0} (i : ASource I) (o : ASink O) where
    -- The journal was opened, and the run went on from the entries that were found: those of the disk, where it is honest.
    pub record RanOn (opening : S) (most : ℕ) (status : Status) (old new : K) (input_old input_new : I) (output_old output_new : O) : Type 0 where
      pub entries : List (List ℕ)
      pub found : k.honest old → HasEntries entries (k.reads old)
      pub outcome : WhileTold (i.left input_old) (i.left input_new) (λ first rest. Outcome (as_in_midst status) (λ s. s ≡ entries)
          (λ s bodies. Durable status (record { entries = s; state = opening; disk = old; given = o.given output_old; most = most }) new (o.given output_new)
          bodies) first rest)

    -- The journal wasn't opened: nothing was read or written, and a crash leaves the entries that there were. Where the first
    -- sync failed, the disk was read alone.
    pub record NotOpened (status : Status) (old new : K) (input_old input_new : I) (output_old output_new : O) : Type 0 where
      pub end : (status ≡ NoMemory) ⊎ (status ≡ DiskFault)
      pub unread : input_new ≡ input_old
      pub unwritten : output_new ≡ output_old
      pub any_moment : k.honest old → (entries : List (List ℕ)) → HasEntries entries (k.reads old)
          → Mends k old new (HasEntries entries) ⊎ WasRead k old new

-- a device as what is read from
abbrev pub source_of : {D : Type 0} → ADuplex D → ASource D
source_of d = record { left = d.left; faults = d.take_faults }

-- a run that went on over one device, and kept no reply back
pub record RanPromptly {S K D : Type 0} (plain : PlainMachine S) (k : ADisk K) (d : ADuplex D) (o : ASink D) (opening : S) (most : ℕ) (status : Status)
    (old new : K) (device_old device_new : D) : Type 0 where
  pub ran : RanOn plain k (source_of d) o opening most status old new device_old device_new device_old device_new
  pub prompt : IsPrompt plain d o opening most ran.entries device_old device_new

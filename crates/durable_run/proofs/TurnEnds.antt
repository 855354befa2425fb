-- How a turn ends, and what was counted.
use Rattle.std.proofs.Common.{◌≡◌, ℕ, ◌≤◌, ◌==◌, Bool, true, false, if◌then◌else◌, refl, sym, ap, ◌∙◌, subst}
use Rattle.std.proofs.lemmas.Bool.{false≢true}
use Rattle.tardis_io.specs.declared.statuses.Status.{Status}
use Rattle.tardis_io.specs.declared.statuses.Status.TheVariants.{Ok as Finished, Cut, ReadFault, WriteFault, DiskFault, NoMemory}
use Rattle.tardis_io.specs.Faults.{Rose}
use Rattle.site_run.specs.Endings.{IsRunEnd}
use Rattle.tardis_io.specs.declared.streams.Source.{Ghosts as ASource}
use Rattle.tardis_io.specs.declared.streams.Sink.{Ghosts as ASink}
use Rattle.disk_store.specs.declared.disks.Disk.{Ghosts as ADisk}
use Rattle.durable_run.specs.Ends.{as_in_midst}
use Rattle.durable_run.specs.declared.groups.DeviceFault.{DeviceFault}
use Rattle.durable_run.specs.declared.groups.DeviceFault.TheVariants.{Disk, Output}
use Rattle.durable_run.specs.Turns.{Went, Ended, Stopped}
use Rattle.durable_run.proofs.Bodies.{rose_earlier, went_same, went_then}
use Rattle.durable_run.proofs.Running.{number}

-- statuses that a test tells apart
differ : (test : Status → Bool) (a b : Status) → test a ≡ false → test b ≡ true → a ≡ b → ⊥
differ test a b fails holds e = false≢true (sym fails ∙ ap test e ∙ holds)

abbrev has : ℕ → Status → Bool
has n status = number status == n

module _ {K I O : Type 0} (k : ADisk K) (src : ASource I) (snk : ASink O) where
  -- a run that no fault ended
  pub ended_plain : (disk mid now : K) (i j : I) (o p : O) (status : Status) → IsRunEnd (as_in_midst status) → number status ≡ 0 → now ≡ mid →
      Went k disk mid → Ended k src snk disk now i j o p status
  ended_plain disk mid now i j o p status end zero same went = record {
    end = end;
    went = subst (λ d. Went k disk d) (sym same) went;
    disk_rose = λ e. absurd (differ (has 1) status DiskFault (ap (λ n. n == 1) zero) refl e);
    read_rose = λ e. absurd (differ (has 2) status ReadFault (ap (λ n. n == 2) zero) refl e);
    write_rose = λ e. absurd (differ (has 3) status WriteFault (ap (λ n. n == 3) zero) refl e);
  }

  -- the input ended
  pub ended_input : (disk now : K) (i j : I) (o p : O) (whole : Bool) (status : Status) → status ≡ (if whole then Finished else Cut) → now ≡ disk →
      Ended k src snk disk now i j o p status
  ended_input disk now i j o p true status is same =
      subst (λ s. Ended k src snk disk now i j o p s) (sym is)
      (ended_plain disk disk now i j o p Finished tt refl same (went_same k disk))
  ended_input disk now i j o p false status is same =
      subst (λ s. Ended k src snk disk now i j o p s) (sym is)
      (ended_plain disk disk now i j o p Cut tt refl same (went_same k disk))

  -- the input failed
  pub ended_read : (disk now : K) (i j : I) (o p : O) → Rose (src.faults i) (src.faults j) → now ≡ disk → Ended k src snk disk now i j o p ReadFault
  ended_read disk now i j o p rose same = record {
    end = tt;
    went = subst (λ d. Went k disk d) (sym same) (went_same k disk);
    disk_rose = λ e. absurd (differ (has 1) ReadFault DiskFault refl refl e);
    read_rose = λ e. rose;
    write_rose = λ e. absurd (differ (has 3) ReadFault WriteFault refl refl e);
  }

  -- the disk failed
  pub ended_disk : (disk now : K) (i j : I) (o p : O) (stop : DeviceFault K) → stop ≡ Disk now → Stopped k snk disk o p stop →
      Ended k src snk disk now i j o p DiskFault
  ended_disk disk now i j o p stop is stopped =
      let s = subst (λ z. Stopped k snk disk o p z) is stopped in record {
        end = tt;
        went = s.went;
        disk_rose = λ e. s.rose;
        read_rose = λ e. absurd (differ (has 2) DiskFault ReadFault refl refl e);
        write_rose = λ e. absurd (differ (has 3) DiskFault WriteFault refl refl e);
      }

  -- the sink failed
  pub ended_output : (disk now : K) (i j : I) (o p : O) (stop : DeviceFault K) → stop ≡ Output now → Stopped k snk disk o p stop →
      Ended k src snk disk now i j o p WriteFault
  ended_output disk now i j o p stop is stopped =
      let s = subst (λ z. Stopped k snk disk o p z) is stopped in record {
        end = tt;
        went = s.went;
        disk_rose = λ e. absurd (differ (has 1) WriteFault DiskFault refl refl e);
        read_rose = λ e. absurd (differ (has 2) WriteFault ReadFault refl refl e);
        write_rose = λ e. s.rose;
      }

-- a run in its midst doesn't end for want of memory
abbrev wanting : Status → Bool
wanting NoMemory = true
wanting _ = false

pub no_memory : (status : Status) → wanting status ≡ false → status ≡ NoMemory → ⊥
no_memory status other e = differ wanting status NoMemory other refl e

pub input_no_memory : (whole : Bool) (status : Status) → status ≡ (if whole then Finished else Cut) → status ≡ NoMemory → ⊥
input_no_memory true status is e = no_memory Finished refl (sym is ∙ e)
input_no_memory false status is e = no_memory Cut refl (sym is ∙ e)

module _ {K I O : Type 0} (k : ADisk K) (src : ASource I) (snk : ASink O) where
  -- a turn that ended a run ended it since an earlier moment
  pub ended_since : (disk mid now : K) (i j l : I) (o p q : O) (status : Status) → Went k disk mid → src.faults i ≤ src.faults j → snk.faults o ≤ snk.faults p
      → Ended k src snk mid now j l p q status → Ended k src snk disk now i l o q status
  ended_since disk mid now i j l o p q status went read written e = record {
    end = e.end;
    went = went_then k disk mid now went e.went;
    disk_rose = λ s. rose_earlier (k.faults disk) (k.faults mid) (k.faults now) went.later (e.disk_rose s);
    read_rose = λ s. rose_earlier (src.faults i) (src.faults j) (src.faults l) read (e.read_rose s);
    write_rose = λ s. rose_earlier (snk.faults o) (snk.faults p) (snk.faults q) written (e.write_rose s);
  }

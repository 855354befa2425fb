-- What a store tells of the disk of a durable run, and the faults that it counts.
use Rattle.std.proofs.Common.{◌≡◌, ◌⊎◌, inl, inr, ⊎_elim, ℕ, ◌<◌, ◌≤◌, Option, Some, None, Ok, List, length, refl, sym, ap, subst, arith}
use Rattle.std.proofs.lemmas.Bool.{cases_lt}
use Rattle.tardis_io.specs.declared.streams.Source.{Ghosts as ASource}
use Rattle.tardis_io.specs.declared.streams.Sink.{Ghosts as ASink}
use Rattle.disk_store.specs.declared.disks.Disk.{Ghosts as ADisk}
use Rattle.disk_store.specs.declared.stores.Store.{Ghosts as AStore}
use Rattle.tardis_io.specs.declared.statuses.Status.{Status}
use Rattle.tardis_io.specs.declared.statuses.Status.TheVariants.{ReadFault, WriteFault, DiskFault, NoMemory}
use Rattle.tardis_io.specs.Told.{WhileTold}
use Rattle.tardis_io.specs.Faults.{Rose, raised}
use Rattle.tardis_io.proofs.Told.{weaker, same}
use Rattle.frame_cut.specs.Frames.{IsCut}
use Rattle.disk_store.specs.Stores.{ToldStore, Opens, Refuses, IsOut, with_back, count_after}
use Rattle.plain_site.specs.Site.{Site}
use Rattle.plain_site.specs.Step.{site_machine}
use Rattle.durable_run.specs.Ends.{NotOpened, RanOn}
use Rattle.site_run.specs.Endings.{EndsAs, most_taken}
use Rattle.site_commands.specs.Ends.{CausedBy, UnlessFaulty}
use Rattle.durable_run.specs.Turns.{Ended}
use Rattle.durable_run.specs.Commands.{OpenedAndBack, EndsBy, DurableEnds}
use Rattle.durable_run.proofs.Running.{ExactEnd, other_fault, another_fault, memory_no_disk}

module _ {K : Type 0} (path : List ℕ) where
  pub out_now : (a b : Option (ToldStore K)) (d : K) → Opens path a b (Ok d) → IsOut b
  out_now None None d o = tt
  out_now None (Some b) d o = absurd o
  out_now (Some a) None d o = absurd o
  out_now (Some a) (Some b) d o = subst (λ t. t.out ≡ 1) (sym o.2) refl

  pub opened_and_back : (a b c : Option (ToldStore K)) (d back : K) → Opens path a b (Ok d) → c ≡ with_back b back → OpenedAndBack path a c d back
  opened_and_back None None c d back o e = subst (λ t. OpenedAndBack path None t d back) (sym e) tt
  opened_and_back None (Some b) c d back o e = absurd o
  opened_and_back (Some a) None c d back o e = absurd o
  opened_and_back (Some a) (Some b) c d back o e = subst (λ t. OpenedAndBack path (Some a) t d back) (sym e)
      (o.0, o.1, ap (λ t. record { at = t.at; within = t.within; back = Some back; out = 0; elsewhere = t.elsewhere }) o.2)

rose_raised : (s0 s1 s2 : ℕ) → s0 ≤ s1 → s2 ≡ raised s1 → Rose s0 s2
rose_raised s0 s1 s2 less is = ⊎_elim (λ up. inl (omega (arith, less, is, up))) (λ end. inr (omega (arith, is, end))) (cases_lt s1 18446744073709551615)

-- a store's count rose where that of a disk did that it opened
pub rose_back : (d b s0 s1 s2 : ℕ) → d ≡ 0 → s0 ≤ s1 → s2 ≡ count_after b s1 → Rose d b → Rose s0 s2
rose_back d ℕ.zero s0 s1 s2 fresh less is (inl more) = absurd (omega (arith, more))
rose_back d ℕ.zero s0 s1 s2 fresh less is (inr end) = absurd (omega (arith, end))
rose_back d (ℕ.suc n) s0 s1 s2 fresh less is rose = rose_raised s0 s1 s2 less is

module _ {S K I O : Type 0} (st : AStore S K) (k : ADisk K) (src : ASource I) (snk : ASink O) (path : List ℕ) where
  -- no disk was opened: for want of memory
  pub no_run : (Run : K → K → Type 0) (store : S) (input : I) (output : O) → EndsBy st k src snk path store store input input output output Run NoMemory
  no_run Run store input output = record {
    outcome = inl (record { cause = inl (refl, refl); unread = refl; unwritten = refl });
    exact = same (src.left input) (λ first rest_now. (all : List (List ℕ)) (rest : List ℕ)
        → IsCut first all rest → length first < most_taken → (Rose (st.faults store) (st.faults store) → ⊥) →
        UnlessFaulty src.left src.faults snk.faults input input output output (EndsAs rest NoMemory))
        (λ x all rest cut few nd nr nw. tt);
    end = tt;
    still = λ h. h;
    nothing = λ e. (refl, refl);
  }

  -- the same of a command over an input and an output
  pub no_durable : (store : S) (input : I) (output : O) (site : Site) (most : ℕ) →
      DurableEnds st k src snk path store store input input output output site most NoMemory
  no_durable store input output site most = no_run (λ disk back. NotOpened site_machine k src snk NoMemory disk back input input output output
      ⊎ RanOn site_machine k src snk site most NoMemory disk back input input output output) store input output

  -- or as the store failed
  pub no_file : (Run : K → K → Type 0) (a b : S) (input : I) (output : O) → Refuses path (st.told a) (st.told b) →
      Rose (st.faults a) (st.faults b) → (st.honest a → st.honest b)
      → EndsBy st k src snk path a b input input output output Run DiskFault
  no_file Run a b input output opens rose still = record {
    outcome = inl (record { cause = inr (refl, rose, opens); unread = refl; unwritten = refl });
    exact = same (src.left input) (λ first rest_now. (all : List (List ℕ)) (rest : List ℕ)
        → IsCut first all rest → length first < most_taken → (Rose (st.faults a) (st.faults b) → ⊥) →
        UnlessFaulty src.left src.faults snk.faults input input output output (EndsAs rest DiskFault))
        (λ x all rest cut few nd nr nw. absurd (nd rose));
    end = tt;
    still = still;
    nothing = λ e. absurd (memory_no_disk (sym e));
  }

  -- or it was opened, run over, and put back
  pub over_disk : (Run : K → K → Type 0) (a b c : S) (disk back : K) (i j : I) (o p : O) (status : Status) → Opens path (st.told a) (st.told b) (Ok disk) →
      st.told c ≡ with_back (st.told b) back
      → (st.honest a → k.honest disk) → (st.honest a → st.honest c) → (Rose (k.faults disk) (k.faults back) → Rose (st.faults a) (st.faults c))
      → Run disk back
      → WhileTold (src.left i) (src.left j)
      (ExactEnd status (Rose (k.faults disk) (k.faults back)) (Rose (src.faults i) (src.faults j)) (Rose (snk.faults o) (snk.faults p)))
      → Ended k src snk disk back i j o p status → (status ≡ NoMemory → (j ≡ i) × (p ≡ o))
      → EndsBy st k src snk path a c i j o p Run status
  over_disk Run a b c disk back i j o p status opens put as_honest still rose run exact ended nothing = record {
    outcome = inr (record {
      disk = disk;
      back = back;
      handled = opened_and_back path (st.told a) (st.told b) (st.told c) disk back opens put;
      is_honest = as_honest;
      run = run;
    });
    exact = weaker (src.left i) (src.left j)
        (ExactEnd status (Rose (k.faults disk) (k.faults back)) (Rose (src.faults i) (src.faults j)) (Rose (snk.faults o) (snk.faults p)))
        (λ first rest_now. (all : List (List ℕ)) (rest : List ℕ)
        → IsCut first all rest → length first < most_taken → (Rose (st.faults a) (st.faults c) → ⊥) →
        UnlessFaulty src.left src.faults snk.faults i j o p (EndsAs rest status))
        exact (λ x y e all rest cut few nd nr nw. e all rest cut few (λ r. nd (rose r)) nr nw);
    end = ended.end;
    still = still;
    nothing = nothing;
  }

-- what wasn't read or written counted nothing
pub unread : (n : ℕ) → CausedBy ReadFault n n DiskFault
unread n = record { later = omega arith; cause = λ e. absurd (other_fault e) }

pub unwritten : (n : ℕ) → CausedBy WriteFault n n DiskFault
unwritten n = record { later = omega arith; cause = λ e. absurd (another_fault e) }

-- How a server ends whose site is kept in a file, by the calls of the store.
use Rattle.std.proofs.Common.{◌≡◌, ◌⊎◌, inl, inr, ⊎_elim, ℕ, ◌<◌, ◌≤◌, true, false, List, Option, Some, None, Result, Ok, Err, refl, sym, ap, subst, arith}
use Rattle.std.proofs.lemmas.Bool.{cases_lt}
use Rattle.tardis_io.specs.declared.faults.Failed.{Failed}
use Rattle.tardis_io.specs.Faults.{Rose, raised}
use Rattle.disk_store.specs.declared.disks.Disk.{Ghosts as ADisk}
use Rattle.disk_store.specs.declared.stores.Store.{Ghosts as AStore}
use Rattle.disk_store.specs.Stores.{ToldStore, Opens, Refuses, FindsHeld, IsOut, with_back, count_after}
use Rattle.daemon_words.specs.Daemons.{Daemon}
use Rattle.hub.specs.declared.ports.Seen.{Seen}
use Rattle.tardisd_main.specs.declared.endings.GateFault.{GateFault}
use Rattle.tardisd_main.specs.declared.endings.FileFault.{FileFault}
use Rattle.tardisd_main.specs.declared.endings.FileFault.TheVariants.{InUse, Refused}
use Rattle.tardisd_main.specs.declared.endings.DaemonEnd.{DaemonEnd}
use Rattle.tardisd_main.specs.declared.endings.DaemonEnd.TheVariants.{NoMemory, File}
use Rattle.tardisd_main.specs.Files.{IsRefused}
use Rattle.tardisd_main.specs.Stores.{ServedFrom, KeepsAs}

-- a disk that was handed out is out
pub out_now : {K : Type 0} (path : List ℕ) (a b : Option (ToldStore K)) (d : K) → Opens path a b (Ok d) → IsOut b
out_now path None None d o = tt
out_now path None (Some b) d o = absurd o
out_now path (Some a) None d o = absurd o
out_now path (Some a) (Some b) d o = subst (λ t. t.out ≡ 1) (sym o.2) refl

rose_raised : (s0 s1 s2 : ℕ) → s0 ≤ s1 → s2 ≡ raised s1 → Rose s0 s2
rose_raised s0 s1 s2 less is = ⊎_elim (λ up. inl (omega (arith, less, is, up))) (λ end. inr (omega (arith, is, end))) (cases_lt s1 18446744073709551615)

-- a store's count rose where its disk counted a fault
pub rose_back : (b s0 s1 s2 : ℕ) → s0 ≤ s1 → s2 ≡ count_after b s1 → 0 < b → Rose s0 s2
rose_back ℕ.zero s0 s1 s2 less is some = absurd (omega (arith, some))
rose_back (ℕ.suc n) s0 s1 s2 less is some = rose_raised s0 s1 s2 less is

module _ {D P S K : Type 0} (opens : Daemon → Result P GateFault → Type 0) (seen : P → Option (List Seen)) (st : AStore S K) (k : ADisk K)
    (life : List ℕ) (asked : Daemon) (path : List ℕ) where
  pub no_memory : (old : D) (was : S) → KeepsAs opens seen st k life asked path old old was was NoMemory
  no_memory old was = record { became = inl (record { end_is = refl; no_edge = refl; no_file = refl }); still = λ h. h }

  pub no_file : (old : D) (was now : S) (fault : FileFault) (e : Failed)
      → ((fault ≡ InUse) × (st.locked now ≡ true)) ⊎ ((fault ≡ Refused) × (st.locked now ≡ false))
      → Rose (st.faults was) (st.faults now) → Refuses path (st.told was) (st.told now) → FindsHeld path (st.told was) (st.locked now) (Err e)
      → (st.honest was → st.honest now) → KeepsAs opens seen st k life asked path old old was now (File fault)
  no_file old was now fault e is cause told held still =
      record {
        became = inr (inl (record {
          end_is = ⊎_elim (λ (p : (fault ≡ InUse) × (st.locked now ≡ true)). inl (ap (λ (f : FileFault). File f) p.0, p.1))
              (λ (p : (fault ≡ Refused) × (st.locked now ≡ false)). inr (ap (λ (f : FileFault). File f) p.0, p.1)) is;
          cause = cause;
          told = told;
          held = (e, held);
          no_edge = refl;
        }));
        still = still;
      }

  pub with_file : (old new : D) (was mid now : S) (disk back : K) (end : DaemonEnd) → Opens path (st.told was) (st.told mid) (Ok disk)
      → st.told now ≡ with_back (st.told mid) back → (st.honest was → k.honest disk) → (st.honest was → st.honest now)
      → st.faults was ≤ st.faults mid → st.faults now ≡ count_after (k.faults back) (st.faults mid)
      → (IsRefused k asked life disk back end × (new ≡ old)) ⊎ ServedFrom opens seen k asked life end disk back
      → KeepsAs opens seen st k life asked path old new was now end
  with_file old new was mid now disk back end opened put honest still later counts became =
      record {
        became = inr (inr (record {
          disk = disk;
          back = back;
          handled = (st.told mid, (opened, put));
          is_honest = honest;
          counted = rose_back (k.faults back) (st.faults was) (st.faults mid) (st.faults now) later counts;
          became = became;
        }));
        still = still;
      }

-- What becomes of a file that is checked.
use Rattle.std.proofs.Common.{◌≡◌, ◌⊎◌, inl, inr, ⊎_elim, ◌≤◌, ℕ, true, false, List, [], length, Bool, refl, sym, ap, ◌∙◌, subst, arith, Err, Ok, IsTrue, map}
use Rattle.std.specs.List.{IsDistinct}
use Rattle.std.specs.Prelude.{bytes_eq}
use Rattle.std.proofs.lemmas.Bool.{le-leb}
use Rattle.tardis_base.specs.declared.ids.StateId.{StateId}
use Rattle.tardis_base.specs.declared.records.Record.{Record}
use Rattle.tardis_base.specs.Keys.{is_key_among}
use Rattle.tardis_base.specs.Valid.{are_limits}
use Rattle.tardis_io.specs.declared.faults.Failed.{Failed}
use Rattle.tardis_io.specs.Faults.{Rose}
use Rattle.disk_store.specs.declared.disks.Disk.{Ghosts as ADisk}
use Rattle.disk_store.specs.declared.stores.Store.{Ghosts as AStore}
use Rattle.disk_store.specs.Stores.{Opens, Refuses as GivesNone, FindsHeld, with_back, count_after}
use Rattle.command_words.specs.Places.{IsPlace}
use Rattle.log_groups.specs.declared.fronts.LogFront.{LogFront}
use Rattle.plain_dag.specs.Forks.{leaves}
use Rattle.plain_dag.specs.Collection.{kept_states}
use Rattle.state_dag.specs.Stands.{Stands}
use Rattle.version_list.specs.Versions.{versions_of}
use Rattle.record_store.specs.Store.{Store}
use Rattle.record_store.specs.Stands.{StoreStands, shown_version}
use Rattle.plain_site.specs.Site.{Site}
use Rattle.site_lives.specs.Acquainted.{Acquainted}
use Rattle.rest_site.specs.Stands.{HeldSite, AcquaintedStands}
use Rattle.site_log.specs.declared.ends.OpenEnd.{OpenEnd}
use Rattle.site_log.specs.declared.ends.OpenEnd.TheVariants.{Disk as DiskFailed, NotALog, OtherVersion, BadFront, OtherSite, OtherLimits, Damaged, Unfit, NoMemory}
use Rattle.site_log.specs.declared.replays.Found.{Found}
use Rattle.site_log.specs.Kept.{TakesAll}
use Rattle.site_log.specs.Reads.{IsWanted}
use Rattle.site_log.specs.Replays.{Replayed}
use Rattle.site_log.specs.Opens.{WasRead}
use Rattle.site_log.specs.Readies.{DiskEnd}
use Rattle.site_doors.specs.Kept.{resting}
use Rattle.tardisd_main.specs.declared.checks.CheckedLog.{CheckedLog}
use Rattle.tardisd_main.specs.declared.endings.FileFault.{FileFault}
use Rattle.tardisd_main.specs.declared.endings.FileFault.TheVariants.{InUse, Refused, Disk as DiskFails}
use Rattle.tardisd_main.specs.declared.endings.DaemonEnd.{DaemonEnd}
use Rattle.tardisd_main.specs.declared.endings.DaemonEnd.TheVariants.{Told, Checked, Usage, WriteFailed, NoMemory as WantedMemory, Gate, File, Spent}
use Rattle.tardisd_main.specs.Files.{not_opened}
use Rattle.tardisd_main.specs.Checks.{place_in, widest, opens_widest, widest_limits, IsSpoiled, TellsBytes, TellsLog, TellsSite, IsChecked, IsRead, NotFound, WasChecked, ChecksAs}
use Rattle.tardisd_main.proofs.Stores.{rose_back}
use Rattle.tardisd_main.proofs.Words.{Served, ends_so, refused_by}

spoiled : (bytes : List ℕ) (why : OpenEnd) → IsSpoiled bytes why → TellsBytes bytes (not_opened why)
spoiled bytes NotALog is = (NotALog, (refl, is))
spoiled bytes (OtherVersion version) is = (OtherVersion version, (refl, is))
spoiled bytes BadFront is = (BadFront, (refl, is))
spoiled bytes (OtherSite front) is = (OtherSite front, (refl, is))
spoiled bytes (OtherLimits front) is = (OtherLimits front, (refl, is))
spoiled bytes (Damaged place) is = (Damaged place, (refl, is))
spoiled bytes (Unfit place) is = (Unfit place, (refl, is))
spoiled bytes NoMemory is = (NoMemory, (refl, is))
spoiled bytes DiskFailed is = (DiskFailed, (refl, is))

-- a file that isn't good is told so
pub tells_spoiled : (bytes : List ℕ) (why : OpenEnd) (end : DaemonEnd) → end ≡ not_opened why → IsSpoiled bytes why → TellsBytes bytes end
tells_spoiled bytes why end is so = subst (λ (e : DaemonEnd). TellsBytes bytes e) (sym is) (spoiled bytes why so)

-- a disk that wasn't read whole failed, or memory was wanting
pub unread : {K : Type 0} (k : ADisk K) (disk back : K) (why : OpenEnd) (end : DaemonEnd) → (k.honest disk → WasRead k disk back)
    → DiskEnd (k.faults disk) (k.faults back) why → end ≡ not_opened why → IsRead k disk back end
unread k disk back DiskFailed end read rose is = record { read = read; told = inr (is, rose) }
unread k disk back NoMemory end read none is =
    record { read = read; told = inl (k.reads disk, (λ h. refl, tells_spoiled (k.reads disk) NoMemory end is (inl tt))) }
unread k disk back NotALog end read never is = absurd (never)
unread k disk back (OtherVersion version) end read never is = absurd (never)
unread k disk back BadFront end read never is = absurd (never)
unread k disk back (OtherSite front) end read never is = absurd (never)
unread k disk back (OtherLimits front) end read never is = absurd (never)
unread k disk back (Damaged place) end read never is = absurd (never)
unread k disk back (Unfit place) end read never is = absurd (never)

-- the limits are such, in any place
pub are_widest : (sites : ℕ) → 1 ≤ sites → sites ≤ 16 → IsTrue (are_limits (widest_limits sites))
are_widest sites some most = rw (le-leb 1 sites some) (rw (le-leb sites 16 most) refl)

abbrev IsNo : Bool → Type 0
IsNo true = ⊥
IsNo false = Unit {0}

-- a front of which it is told that it names no place names none
pub no_place : (told : Bool) (front : LogFront) → (IsPlace (place_in front) → told ≡ true) → told ≡ false → IsPlace (place_in front) → ⊥
no_place told front tells denied place = subst (λ (b : Bool). IsNo b) (sym denied ∙ tells place) tt

-- what the tables of a store tell is so of the site
pub site_told : (store : Store) (site : Site) (listed : List (List ℕ)) (log : CheckedLog) → StoreStands store site.dag site.collected
    → ((rs : List Record) (ks : List StateId) → Stands store.table rs ks → log.known ≡ length rs)
    → ((rs : List Record) (ks : List StateId) → Stands store.table rs ks → log.kept ≡ length (kept_states rs ks))
    → ((rs : List Record) (ks : List StateId) → Stands store.table rs ks → log.leaves ≡ length (leaves rs))
    → log.keys ≡ length listed → IsDistinct bytes_eq listed
    → ((k : List ℕ) → is_key_among k listed ≡ false → versions_of store.versions k ≡ []) → TellsSite site log
site_told store site listed log stands known kept leaf count distinct missing =
    record {
      known = known site.dag site.collected stands.table;
      kept = kept site.dag site.collected stands.table;
      leaves = leaf site.dag site.collected stands.table;
      listed = listed;
      keys = count;
      distinct = distinct;
      others = λ k none. sym (stands.versions k) ∙ ap (map (shown_version store.table)) (missing k none);
    }

-- a front of the same site is at the same place, and its site opens alike
pub checked : (before after : HeldSite) (bytes : List ℕ) (front : LogFront) (found : Found) (bodies : List (List ℕ)) (log : CheckedLog)
    → IsPlace (place_in front) → AcquaintedStands before (opens_widest front) → Replayed resting before after bytes found bodies
    → IsWanted found.front (widest front) → TellsLog found (length bytes) log
    → ((a : Acquainted) → AcquaintedStands after a → TellsSite a.site log) → IsChecked bytes log
checked before after bytes front found bodies log place stands replayed wanted of_log of_site =
    let opens = replayed.taken (opens_widest front) stands in
    let same : opens_widest front ≡ opens_widest found.front =
    ap (λ (m : ℕ). opens_widest (record { sites = m; own = front.own; max_kept = 0; max_path = 0; max_sessions = 0; life = [] })) (sym wanted.0.0)
    ∙ ap (λ (o : ℕ). opens_widest (record { sites = found.front.sites; own = o; max_kept = 0; max_path = 0; max_sessions = 0; life = [] })) (sym wanted.0.1) in
    record {
      found = found;
      bodies = bodies;
      site = opens.0;
      held = replayed.held;
      at = replayed.at;
      number = replayed.number;
      is_place =
          record {
            some = omega (arith, place.some, wanted.0.0);
            most = omega (arith, place.most, wanted.0.0);
            first = omega (arith, place.first, wanted.0.1);
            last = omega (arith, place.last, wanted.0.0, wanted.0.1);
          };
      within = wanted.1;
      taken = subst (λ (s : Acquainted). TakesAll resting s bodies opens.0) same opens.1.0;
      of_log = of_log;
      of_site = of_site opens.0 opens.1.1;
    }

told_served : (bytes : List ℕ) (end : DaemonEnd) → TellsBytes bytes end → Served end
told_served bytes Usage told = ends_so Usage (not_opened told.0) told.1.0 (refused_by told.0)
told_served bytes WriteFailed told = ends_so WriteFailed (not_opened told.0) told.1.0 (refused_by told.0)
told_served bytes Told told = tt
told_served bytes (Checked check) told = tt
told_served bytes WantedMemory told = tt
told_served bytes (Gate fault) told = tt
told_served bytes (File fault) told = tt
told_served bytes Spent told = tt

read_served : {K : Type 0} (k : ADisk K) (disk back : K) (end : DaemonEnd) → IsRead k disk back end → Served end
read_served k disk back end of =
    ⊎_elim (λ (p : (bytes : List ℕ) × ((k.honest disk → bytes ≡ k.reads disk) × TellsBytes bytes end)). told_served p.0 end p.1.1)
    (λ (p : (end ≡ File DiskFails) × Rose (k.faults disk) (k.faults back)). ends_so end (File DiskFails) p.0 tt) of.told

unfound_served : {S : Type 0} (locked : S → Bool) (now : S) (end : DaemonEnd)
    → ((end ≡ File InUse) × (locked now ≡ true)) ⊎ ((end ≡ File Refused) × (locked now ≡ false)) → Served end
unfound_served locked now end is =
    ⊎_elim (λ (p : (end ≡ File InUse) × (locked now ≡ true)). ends_so end (File InUse) p.0 tt)
    (λ (p : (end ≡ File Refused) × (locked now ≡ false)). ends_so end (File Refused) p.0 tt) is

-- words that ask for a check are understood, and nothing had to be written
pub check_served : {S K : Type 0} (st : AStore S K) (k : ADisk K) (path : List ℕ) (was now : S) (end : DaemonEnd) → ChecksAs st k path was now end → Served end
check_served st k path was now end of =
    ⊎_elim (λ (n : NotFound st k path was now end). unfound_served st.locked now end n.end_is)
    (λ (w : WasChecked st k path was now end). read_served k w.disk w.back end w.is_read) of.became

module _ {S K : Type 0} (st : AStore S K) (k : ADisk K) (path : List ℕ) where
  pub not_found : (was now : S) (fault : FileFault) (e : Failed)
      → ((fault ≡ InUse) × (st.locked now ≡ true)) ⊎ ((fault ≡ Refused) × (st.locked now ≡ false))
      → Rose (st.faults was) (st.faults now) → GivesNone path (st.told was) (st.told now) → FindsHeld path (st.told was) (st.locked now) (Err e)
      → (st.honest was → st.honest now) → ChecksAs st k path was now (File fault)
  not_found was now fault e is cause told held still =
      record {
        became = inl (record {
          end_is = ⊎_elim (λ (p : (fault ≡ InUse) × (st.locked now ≡ true)). inl (ap (λ (f : FileFault). File f) p.0, p.1))
              (λ (p : (fault ≡ Refused) × (st.locked now ≡ false)). inr (ap (λ (f : FileFault). File f) p.0, p.1)) is;
          cause = cause;
          told = told;
          held = (e, held);
        });
        still = still;
      }

  pub was_checked : (was mid now : S) (disk back : K) (end : DaemonEnd) → Opens path (st.told was) (st.told mid) (Ok disk)
      → st.told now ≡ with_back (st.told mid) back → (st.honest was → k.honest disk) → (st.honest was → st.honest now)
      → st.faults was ≤ st.faults mid → st.faults now ≡ count_after (k.faults back) (st.faults mid)
      → IsRead k disk back end → ChecksAs st k path was now end
  was_checked was mid now disk back end opened put honest still later counts is_read =
      record {
        became = inr (record {
          disk = disk;
          back = back;
          handled = (st.told mid, (opened, put));
          is_honest = honest;
          counted = rose_back (k.faults back) (st.faults was) (st.faults mid) (st.faults now) later counts;
          is_read = is_read;
        });
        still = still;
      }

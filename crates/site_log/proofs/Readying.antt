-- From a disk that is read to a log that goes on.
use Rattle.std.proofs.Common.{◌≡◌, ◌⊎◌, inl, inr, ⊎_elim, ℕ, ◌≤◌, true, false, List, [], ◌∷◌, length, drop, refl, sym, ap, ◌∙◌, subst, arith, length-append}
use Rattle.rest_machine.specs.declared.resting.Resting.{Ghosts as AResting}
use Rattle.tardis_io.specs.Faults.{Rose}
use Rattle.disk_store.specs.Disks.{LeavesOnly}
use Rattle.disk_store.specs.declared.disks.Disk.{Ghosts as ADisk}
use Rattle.log_groups.specs.declared.fronts.LogFront.{LogFront}
use Rattle.log_groups.specs.Logs.{Holds}
use Rattle.site_log.specs.declared.ends.OpenEnd.{OpenEnd}
use Rattle.site_log.specs.declared.ends.OpenEnd.TheVariants.{NotALog, OtherVersion, BadFront, OtherSite, OtherLimits, Damaged, Unfit, NoMemory, Disk}
use Rattle.site_log.specs.declared.opens.FoundLog.{FoundLog}
use Rattle.site_log.specs.declared.opens.Ready.{Ready}
use Rattle.site_log.specs.declared.replays.Found.{Found}
use Rattle.site_log.specs.declared.logged.Logged.{Logged}
use Rattle.site_log.specs.declared.resumes.LogEnd.{LogEnd}
use Rattle.site_log.specs.Kept.{TakesAll, starts}
use Rattle.site_log.specs.Images.{HoldsBodies}
use Rattle.site_log.specs.Files.{text_of, IsAtRest, OpenFile}
use Rattle.site_log.specs.Resumes.{file_at}
use Rattle.site_log.specs.Stood.{Stands}
use Rattle.site_log.specs.Replays.{ending_of, Replayed}
use Rattle.site_log.specs.Reads.{HasLimitsWithin, IsWanted, Refuses}
use Rattle.site_log.specs.News.{IsNew}
use Rattle.site_log.specs.Opens.{Finds, MayBecome, OpeningLeaves, WasRead, NotTaken, IsRefused, IsOpened}
use Rattle.site_log.specs.Readies.{IsLoaded, DiskEnd, HasLog, IsBegun, IsReady}
use Rattle.site_log.proofs.Appending.{leaves_more}
use Rattle.site_log.proofs.Leaving.{read_none, read_then, then_leaves}
use Rattle.site_log.proofs.Mending.{log_held}

-- both ends are one that isn't
memory_is_no_disk : NoMemory ≡ Disk → ⊥
memory_is_no_disk is = cc

-- the disk failed, or there was no memory
pub disk_cause : (before now : ℕ) (end : OpenEnd) → DiskEnd before now end → end ≡ Disk → Rose before now
disk_cause before now Disk e is = e
disk_cause before now NoMemory e is = absurd (memory_is_no_disk is)
disk_cause before now NotALog e is = absurd (e)
disk_cause before now (OtherVersion version) e is = absurd (e)
disk_cause before now BadFront e is = absurd (e)
disk_cause before now (OtherSite front) e is = absurd (e)
disk_cause before now (OtherLimits front) e is = absurd (e)
disk_cause before now (Damaged place) e is = absurd (e)
disk_cause before now (Unfit place) e is = absurd (e)

-- where it wasn't the disk, it was memory
pub memory_end : (before now : ℕ) (end : OpenEnd) → DiskEnd before now end → (end ≡ Disk → ⊥) → end ≡ NoMemory
memory_end before now Disk e other = absurd (other refl)
memory_end before now NoMemory e other = refl
memory_end before now NotALog e other = absurd (e)
memory_end before now (OtherVersion version) e other = absurd (e)
memory_end before now BadFront e other = absurd (e)
memory_end before now (OtherSite front) e other = absurd (e)
memory_end before now (OtherLimits front) e other = absurd (e)
memory_end before now (Damaged place) e other = absurd (e)
memory_end before now (Unfit place) e other = absurd (e)

module _ {M : Type 0} (m : AResting M) (old : M) (bytes : List ℕ) (wanted : LogFront) where
  -- bytes that aren't new are refused for what stands in them
  pub not_taken : (IsNew bytes → ⊥) → (end : OpenEnd) → Refuses m old bytes wanted end → NotTaken m old bytes wanted end
  not_taken other NotALog r = (r, other)
  not_taken other (OtherVersion version) r = r
  not_taken other BadFront r = r
  not_taken other (OtherSite front) r = r
  not_taken other (OtherLimits front) r = r
  not_taken other (Damaged place) r = r
  not_taken other (Unfit place) r = r
  not_taken other NoMemory r = r
  not_taken other Disk r = r

  -- such a refusal isn't the disk's
  pub no_disk : (end : OpenEnd) → Refuses m old bytes wanted end → end ≡ Disk → ⊥
  no_disk end r is = subst (Refuses m old bytes wanted) is r

within_itself : (front : LogFront) → HasLimitsWithin front front
within_itself front = (omega arith, omega arith, omega arith)

-- a new file's front is the wanted one
pub begun_wanted : {K : Type 0} (k : ADisk K) (disk now : K) (wanted : LogFront) (ready : Ready) → IsBegun k disk now wanted ready
    → IsWanted ready.found.front wanted × (ready.found.is_new ≡ true → ready.found.front ≡ wanted)
begun_wanted k disk now wanted ready b =
    let same : ready.found.front ≡ wanted = ap (λ (f : FoundLog). f.front) b.found in
    (subst (λ f. IsWanted f wanted) (sym same) ((refl, refl), within_itself wanted), λ is. same)

module _ {M K : Type 0} (m : AResting M) (k : ADisk K) where
  -- the disk failed, or there was no memory, and then nothing was done
  pub failed_refused : (old : M) (disk now : K) (wanted : LogFront) (before after : ℕ) (end : OpenEnd) → DiskEnd before after end → (end ≡ NoMemory → now ≡ disk)
      → IsRefused m k old disk wanted end now
  failed_refused old disk now wanted before after end e still h other =
      let is = memory_end before after end e other in (
        subst (WasRead k disk) (sym (still is)) (read_none k disk),
        subst (NotTaken m old (k.reads disk) wanted) (sym is) tt,
      )

  -- want of memory, before anything was written
  pub memory_refused : (old : M) (disk now : K) (wanted : LogFront) (end : OpenEnd) → end ≡ NoMemory → (k.honest disk → WasRead k disk now)
      → IsRefused m k old disk wanted end now
  memory_refused old disk now wanted end is read h other = (read h, subst (NotTaken m old (k.reads disk) wanted) (sym is) tt)

  -- an opening that goes on from a disk that was read
  pub refused_later : (old : M) (disk mid now : K) (wanted : LogFront) (end : OpenEnd) → (k.honest disk → k.honest mid) → (k.honest disk → WasRead k disk mid)
      → IsRefused m k old mid wanted end now → IsRefused m k old disk wanted end now
  refused_later old disk mid now wanted end honest read r h other =
      let first = read h in
      let then = r (honest h) other in
      (read_then k disk mid now first then.0, subst (λ z. NotTaken m old z wanted end) first.same then.1)

  pub leaves_later : (disk mid now : K) (wanted : LogFront) → ((image : List ℕ) → k.left_since disk (k.moment disk) image → k.may_leave disk image)
      → WasRead k disk mid → OpeningLeaves k mid now wanted → OpeningLeaves k disk now wanted
  leaves_later disk mid now wanted only read leaves =
      then_leaves k disk mid now (MayBecome (k.reads disk) wanted) only read
      (leaves_more k mid now (λ image. k.may_leave mid image ⊎ MayBecome (k.reads mid) wanted image)
      (λ image. k.may_leave mid image ⊎ MayBecome (k.reads disk) wanted image) leaves
      (λ image. ⊎_elim (λ was. inl was) (λ may. inr (subst (λ z. MayBecome z wanted image) read.same may))))

  pub ready_later : (old new : M) (disk mid now : K) (wanted : LogFront) (ready : Ready) (bodies : List (List ℕ)) → (k.honest disk → k.honest mid)
      → (k.honest disk → WasRead k disk mid) → IsReady m k old new mid now wanted ready bodies → IsReady m k old new disk now wanted ready bodies
  ready_later old new disk mid now wanted ready bodies honest read r = record {
    found = λ h. subst (λ z. Finds z wanted ready.found bodies) (read h).same (r.found (honest h));
    groups = r.groups;
    bytes = r.bytes;
    rest = λ h. r.rest (honest h);
    taken = r.taken;
  }

  -- a new file was made
  pub begun_ready : (old : M) (disk now : K) (wanted : LogFront) (ready : Ready) → (k.honest disk → IsNew (k.reads disk)) → IsBegun k disk now wanted ready
      → IsReady m k old old disk now wanted ready []
  begun_ready old disk now wanted ready new b = record {
    found = λ h. subst (λ f. Finds (k.reads disk) wanted f []) (sym b.found) (inl (new h, refl, refl, refl, refl));
    groups = ap (λ (f : FoundLog). f.groups) b.found;
    bytes = ap (λ (f : FoundLog). f.bytes) b.found ∙ ap (λ (f : FoundLog). length (text_of f.front [])) (sym b.found);
    rest = λ h. subst (λ f. IsAtRest k now f [] ready.found.bytes ready.room) (sym (ap (λ (f : FoundLog). f.front) b.found)) (b.rest h);
    taken = λ s stood. (s, (refl, stood));
  }

  pub begun_leaves : (disk now : K) (wanted : LogFront) → IsNew (k.reads disk)
      → LeavesOnly k.moment k.left_since disk now (λ image. IsNew image ⊎ HoldsBodies wanted [] image) → OpeningLeaves k disk now wanted
  begun_leaves disk now wanted new leaves =
      leaves_more k disk now (λ image. IsNew image ⊎ HoldsBodies wanted [] image)
      (λ image. k.may_leave disk image ⊎ MayBecome (k.reads disk) wanted image) leaves (λ image may. inr (inr (new, may)))

  -- the log goes on
  pub opened_of : (old new : M) (disk now : K) (wanted : LogFront) (ready : Ready) (bodies : List (List ℕ)) → IsReady m k old new disk now wanted ready bodies
      → (k.honest now → k.honest disk) → m.opening new ≡ m.opening old → (end : LogEnd)
      → end ≡ record { front = ready.found.front; number = ready.found.groups; place = ready.found.bytes; room = ready.room }
      → (log : Logged M K) → log.file ≡ file_at now end → log.machine ≡ new
      → ((s : m.Plain) (bodies : List (List ℕ)) → m.stands new s → TakesAll m (m.opening new) bodies s → end.number ≡ length bodies
      → (k.honest now → IsAtRest k now end.front bodies end.place end.room)
      → Stands m k log (starts s bodies) (record { moment = k.moment now; count = length bodies } ∷ []))
      → IsOpened m k old disk wanted (record { log = log; found = ready.found }) bodies
  opened_of old new disk now wanted ready bodies r honest same end is log file machine stands = record {
    found = r.found;
    groups = r.groups;
    bytes = r.bytes;
    front = ap (λ (f : OpenFile K). f.front) file ∙ ap (λ (e : LogEnd). e.front) is;
    runs = ap (λ (f : OpenFile K). f.failed) file;
    stands = λ s stood.
        let t = r.taken s stood in (
          t.0,
          (
            t.1.0,
            subst (λ (z : M). m.stands z t.0) (sym machine) t.1.1,
            λ opens. subst (λ (d : K). Stands m k log (starts t.0 bodies) (record { moment = k.moment d; count = length bodies } ∷ []))
                (sym (ap (λ (f : OpenFile K). f.disk) file))
                (stands t.0 bodies t.1.1 (subst (λ (z : m.Plain). TakesAll m z bodies t.0) (opens ∙ sym same) t.1.0)
                (ap (λ (e : LogEnd). e.number) is ∙ r.groups)
                (λ h. subst (λ (e : LogEnd). IsAtRest k now e.front bodies e.place e.room) (sym is) (r.rest (honest h)))),
          ),
        );
  }

  -- a log was read from the bytes of a disk
  module _ (old new : M) (disk now : K) (wanted : LogFront) (bytes : List ℕ) (found : Found) (bodies : List (List ℕ))
      (p : Replayed m old new bytes found bodies) (is : IsWanted found.front wanted) where
    pub place_within : found.place ≤ length bytes
    place_within =
        omega (arith, p.at, ap length p.held.whole, length-append (text_of found.front bodies) (drop found.place bytes))

    pub has_log : IsLoaded k disk bytes → HasLog k disk found.front bodies found.place (length bytes) found.torn
    has_log l = record {
      held = subst (λ z. Holds z found.front bodies (drop found.place z) (ending_of found.torn)) l.same p.held;
      durable = l.durable;
      at = p.at;
      long = ap length l.same;
    }

    pub log_leaves : IsLoaded k disk bytes → LeavesOnly k.moment k.left_since disk now (HoldsBodies found.front bodies) → OpeningLeaves k disk now wanted
    log_leaves l leaves =
        leaves_more k disk now (HoldsBodies found.front bodies) (λ image. k.may_leave disk image ⊎ MayBecome (k.reads disk) wanted image) leaves
        (λ image held. inr (inl (found.front, (bodies, (is, log_held k disk found.front bodies found.place (length bytes) found.torn (has_log l), held)))))

    pub log_ready : (k.honest disk → IsLoaded k disk bytes) → (k.honest disk → IsAtRest k now found.front bodies found.place (length bytes))
        → IsReady m k old new disk now wanted
        (record {
          found = record { front = found.front; groups = found.number; bytes = found.place; is_torn = found.torn; is_new = false };
          room = length bytes;
        })
        bodies
    log_ready l rest = record {
      found = λ h. inr (refl, is, subst (λ z. Holds z found.front bodies (drop found.place z) (ending_of found.torn)) (l h).same p.held);
      groups = p.number;
      bytes = p.at;
      rest = rest;
      taken = p.taken;
    }

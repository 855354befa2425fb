-- A run from its opening on, and how it ends.
use Rattle.std.proofs.Common.{◌≡◌, ℕ, ◌<◌, ◌≤◌, Option, Err, List, [], ◌++◌, length, inl, inr, refl, sym, ap, subst, arith}
use Rattle.std.proofs.lemmas.List.{append-nil}
use Rattle.std.specs.List.{concat}
use Rattle.tardis_base.specs.Plain.{PlainMachine}
use Rattle.tardis_io.specs.Told.{WhileTold}
use Rattle.tardis_io.proofs.Told.{weaker, same}
use Rattle.tardis_io.specs.declared.statuses.Status.{Status}
use Rattle.tardis_io.specs.declared.statuses.Status.TheVariants.{ReadFault, WriteFault, DiskFault, NoMemory}
use Rattle.frame_cut.specs.Frames.{IsCut}
use Rattle.disk_store.specs.Disks.{AsHonest}
use Rattle.site_journal.specs.declared.journals.Journaled.{Journaled}
use Rattle.site_journal.specs.Texts.{HasEntries}
use Rattle.site_journal.specs.Moments.{WasRead}
use Rattle.site_journal.specs.declared.journals.OpenEnd.{OpenEnd}
use Rattle.site_journal.specs.declared.journals.OpenEnd.TheVariants.{DiskFault as OpenFaulted, NoMemory as OpenWanting}
use Rattle.site_journal.specs.Opened.{IsOpen, Mends, OpenImages, OpenFault, disk_of}
use Rattle.tardis_io.specs.Faults.{Rose}
use Rattle.site_run.specs.Endings.{EndsAs, most_taken}
use Rattle.durable_run.specs.Replies.{HasFront}
use Rattle.durable_run.specs.Groups.{Start, Grouping}
use Rattle.durable_run.specs.Ends.{Durable, NotOpened, RanOn}
use Rattle.durable_run.specs.Turns.{EndsSo, Went, Ended}
use Rattle.durable_run.proofs.Bodies.{rose_earlier, went_then, went_same}
use Rattle.durable_run.proofs.Moments.{front_found, mends_weaker}
use Rattle.durable_run.proofs.Outcomes.{ends_as}
use Rattle.tardis_io.specs.declared.streams.Source.{Ghosts as ASource}
use Rattle.tardis_io.specs.declared.streams.Sink.{Ghosts as ASink}
use Rattle.disk_store.specs.declared.disks.Disk.{Ghosts as ADisk}
use Rattle.tardis_base.specs.declared.machines.Machine.{Ghosts as AMachine}

-- a status that comes without a fault, where nothing was counted
abbrev pub ExactEnd : Status → Type 0 → Type 0 → Type 0 → List ℕ → List ℕ → Type 0
ExactEnd status Disks Reads Writes first left = (all : List (List ℕ)) (rest : List ℕ) → IsCut first all rest → length first < most_taken → (Disks → ⊥) →
    (Reads → ⊥) → (Writes → ⊥) → EndsAs rest status

pub exact_memory : (a : Option (List ℕ)) (Disks Reads Writes : Type 0) → WhileTold a a (ExactEnd NoMemory Disks Reads Writes)
exact_memory a Disks Reads Writes = same a (ExactEnd NoMemory Disks Reads Writes) (λ x all rest d few nd nr nw. tt)

pub exact_fault : (a : Option (List ℕ)) (Disks Reads Writes : Type 0) → Disks → WhileTold a a (ExactEnd DiskFault Disks Reads Writes)
exact_fault a Disks Reads Writes rose = same a (ExactEnd DiskFault Disks Reads Writes) (λ x all rest d few nd nr nw. absurd (nd rose))

-- statuses that differ
abbrev pub number : Status → ℕ
number DiskFault = 1
number ReadFault = 2
number WriteFault = 3
number _ = 0

pub other_fault : DiskFault ≡ ReadFault → ⊥
other_fault e = let n : 1 ≡ 2 = ap number e in omega (arith, n)

pub another_fault : DiskFault ≡ WriteFault → ⊥
another_fault e = let n : 1 ≡ 3 = ap number e in omega (arith, n)

pub memory_no_disk : NoMemory ≡ DiskFault → ⊥
memory_no_disk e = let n : 0 ≡ 1 = ap number e in omega (arith, n)

memory_no_read : NoMemory ≡ ReadFault → ⊥
memory_no_read e = let n : 0 ≡ 2 = ap number e in omega (arith, n)

memory_no_write : NoMemory ≡ WriteFault → ⊥
memory_no_write e = let n : 0 ≡ 3 = ap number e in omega (arith, n)

-- a disk that wasn't touched
pub untouched : {K : Type 0} (k : ADisk K) (disk : K) →
    WasRead k disk disk
untouched k disk = record { same = refl; crash = λ image is. is; later = omega arith; since = λ t image le left. left }

pub no_buffers : {S K I O : Type 0} (plain : PlainMachine S) (k : ADisk K) (src : ASource I) (snk : ASink O) (disk : K) (i : I) (o : O) →
    NotOpened plain k src snk NoMemory disk disk i i o o
no_buffers plain k src snk disk i o = record {
  end = inl refl;
  unread = refl;
  unwritten = refl;
  any_moment = λ h entries has. inr (untouched k disk);
}

pub ended_none : {K I O : Type 0} (k : ADisk K) (src : ASource I) (snk : ASink O) (disk : K) (i : I) (o : O) →
    Ended k src snk disk disk i i o o NoMemory
ended_none k src snk disk i o = record {
  end = tt;
  went = went_same k disk;
  disk_rose = λ e. absurd (memory_no_disk e);
  read_rose = λ e. absurd (memory_no_read e);
  write_rose = λ e. absurd (memory_no_write e);
}

-- how a run ended, told of values that are the same
module _ {S K I O : Type 0} (plain : PlainMachine S) (k : ADisk K) (src : ASource I) (snk : ASink O) where
  pub apart_unopened : (status : Status) (old new : K) (i j x : I) (o p y : O) → NotOpened plain k src snk status old new i j o p → j ≡ x → p ≡ y →
      NotOpened plain k src snk status old new i x o y
  apart_unopened status old new i j x o p y n input output =
      subst (λ z. NotOpened plain k src snk status old new i z o y) input
      (subst (λ z. NotOpened plain k src snk status old new i j o z) output n)

  pub apart_ran : (opening : S) (most : ℕ) (status : Status) (old new : K) (i j x : I) (o p y : O) → RanOn plain k src snk opening most status old new i j o p →
      j ≡ x → p ≡ y → RanOn plain k src snk opening most status old new i x o y
  apart_ran opening most status old new i j x o p y r input output =
      subst (λ z. RanOn plain k src snk opening most status old new i z o y) input
      (subst (λ z. RanOn plain k src snk opening most status old new i j o z) output r)

module _ {M K : Type 0} (m : AMachine M) (k : ADisk K) where
  -- the journal was opened
  pub begun : (entries : List (List ℕ)) (state : m.Plain) (disk : K) (given : Option (List ℕ)) (most : ℕ) (journal : Journaled M K) →
      IsOpen m k journal entries []
      → m.opening journal.machine ≡ state → journal.max_trail ≡ most → AsHonest k.honest disk journal.disk → (k.honest disk → HasEntries entries (k.reads disk))
      → (k.honest disk → (found : List (List ℕ)) → HasEntries found (k.reads disk) → Mends k disk journal.disk (HasEntries found))
      → Grouping m k
      (record { entries = entries; state = state; disk = disk; given = given; most = most }) journal given [] []
  begun entries state disk given most journal is_open opened limit as_honest found images = record {
    written = [];
    grouped = [];
    parts = refl;
    answers = [];
    others = [];
    entries = entries;
    staged = [];
    each = refl;
    told = same given (λ y z. z ≡ y ++ concat []) (λ x. sym (append-nil x));
    waiting = append-nil entries;
    holds = refl;
    is_open = is_open;
    state = opened;
    most = limit;
    new = [];
    grew = sym (append-nil entries);
    as_honest = as_honest;
    any_moment = λ h. mends_weaker k disk journal.disk (HasEntries entries) (HasFront entries entries)
        (images h entries (found h)) (λ image. front_found entries image);
  }

  -- the status tells what ended the run
  pub exact_end : (at : Start m.Plain K) (a b : Option (List ℕ)) (status : Status) (disk : K) (now : Option (List ℕ)) (Disks Reads Writes : Type 0) →
      (status ≡ DiskFault → Disks) → (status ≡ ReadFault → Reads) → (status ≡ WriteFault → Writes)
      → WhileTold a b (EndsSo m.plain k at status disk now) → WhileTold a b (ExactEnd status Disks Reads Writes)
  exact_end at a b status disk now Disks Reads Writes x r w told =
      weaker a b (EndsSo m.plain k at status disk now) (ExactEnd status Disks Reads Writes) told
      (λ first left o all rest d few nd nr nw. ends_as status (λ s. s ≡ at.entries)
      (λ s bodies. Durable m.plain k status
      (record { entries = s; state = at.state; disk = at.disk; given = at.given; most = at.most }) disk now bodies)
      first left o (λ e. nr (r e)) (λ e. nw (w e)) (λ e. nd (x e)) all rest d few)

  -- the journal wasn't opened
  pub unopened_fault : {I O : Type 0} (src : ASource I) (snk : ASink O) (disk d : K) (end : OpenEnd K) (i : I) (o : O) →
      end ≡ OpenFaulted d
      → (k.honest disk → (entries : List (List ℕ)) → HasEntries entries (k.reads disk) →
      OpenImages {M = M} {K = K} k disk (Err end) (HasEntries entries))
      → NotOpened m.plain k src snk DiskFault disk d i i o o
  unopened_fault src snk disk d end i o is images = record {
    end = inr refl;
    unread = refl;
    unwritten = refl;
    any_moment = λ h entries has. subst (λ e. OpenImages {M = M} {K = K} k disk (Err e) (HasEntries entries)) is
        (images h entries has);
  }

  pub unopened_memory : {I O : Type 0} (src : ASource I) (snk : ASink O) (disk d : K) (end : OpenEnd K) (i : I) (o : O) →
      end ≡ OpenWanting d
      → (k.honest disk → (entries : List (List ℕ)) → HasEntries entries (k.reads disk) →
      OpenImages {M = M} {K = K} k disk (Err end) (HasEntries entries))
      → NotOpened m.plain k src snk NoMemory disk d i i o o
  unopened_memory src snk disk d end i o is images = record {
    end = inl refl;
    unread = refl;
    unwritten = refl;
    any_moment = λ h entries has. subst (λ e. OpenImages {M = M} {K = K} k disk (Err e) (HasEntries entries)) is
        (images h entries has);
  }

  pub rose_of : (disk d : K) (end : OpenEnd K) → end ≡ OpenFaulted d → OpenFault {M = M} {K = K} k disk (Err end) →
      Rose (k.faults disk) (k.faults d)
  rose_of disk d end is failed = subst (λ e. OpenFault {M = M} {K = K} k disk (Err e)) is failed

  went_fault : (disk d : K) (end : OpenEnd K) → end ≡ OpenFaulted d → k.faults disk ≤ k.faults (disk_of {M = M} {K = K} (Err end)) →
      AsHonest k.honest disk (disk_of {M = M} {K = K} (Err end)) → Went k disk d
  went_fault disk d end is later as_honest = subst (λ e. Went k disk (disk_of {M = M} {K = K} (Err e))) is
      (record { later = later; as_honest = as_honest })

  went_memory : (disk d : K) (end : OpenEnd K) → end ≡ OpenWanting d → k.faults disk ≤ k.faults (disk_of {M = M} {K = K} (Err end)) →
      AsHonest k.honest disk (disk_of {M = M} {K = K} (Err end)) → Went k disk d
  went_memory disk d end is later as_honest = subst (λ e. Went k disk (disk_of {M = M} {K = K} (Err e))) is
      (record { later = later; as_honest = as_honest })

  pub ended_fault : {I O : Type 0} (src : ASource I) (snk : ASink O) (disk d : K) (end : OpenEnd K) (i : I) (o : O) → end ≡ OpenFaulted d →
      OpenFault {M = M} {K = K} k disk (Err end)
      → k.faults disk ≤ k.faults (disk_of {M = M} {K = K} (Err end)) → AsHonest k.honest disk (disk_of {M = M} {K = K} (Err end)) →
      Ended k src snk disk d i i o o DiskFault
  ended_fault src snk disk d end i o is failed later as_honest = record {
    end = tt;
    went = went_fault disk d end is later as_honest;
    disk_rose = λ e. rose_of disk d end is failed;
    read_rose = λ e. absurd (other_fault e);
    write_rose = λ e. absurd (another_fault e);
  }

  pub ended_memory : {I O : Type 0} (src : ASource I) (snk : ASink O) (disk d : K) (end : OpenEnd K) (i : I) (o : O) → end ≡ OpenWanting d
      → k.faults disk ≤ k.faults (disk_of {M = M} {K = K} (Err end)) → AsHonest k.honest disk (disk_of {M = M} {K = K} (Err end)) →
      Ended k src snk disk d i i o o NoMemory
  ended_memory src snk disk d end i o is later as_honest = record {
    end = tt;
    went = went_memory disk d end is later as_honest;
    disk_rose = λ e. absurd (memory_no_disk e);
    read_rose = λ e. absurd (memory_no_read e);
    write_rose = λ e. absurd (memory_no_write e);
  }

  pub ended_later : {I O : Type 0} (src : ASource I) (snk : ASink O) (disk mid now : K) (i j : I) (o p : O) (status : Status) →
      k.faults disk ≤ k.faults mid → AsHonest k.honest disk mid
      → Ended k src snk mid now i j o p status → Ended k src snk disk now i j o p status
  ended_later src snk disk mid now i j o p status later as_honest e = record {
    end = e.end;
    went = went_then k disk mid now (record { later = later; as_honest = as_honest }) e.went;
    disk_rose = λ s. rose_earlier (k.faults disk) (k.faults mid) (k.faults now) later (e.disk_rose s);
    read_rose = e.read_rose;
    write_rose = e.write_rose;
  }

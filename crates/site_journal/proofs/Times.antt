-- How a run of calls of a disk goes on.
use Rattle.std.proofs.Common.{◌≡◌, inl, inr, ⊎_elim, ℕ, ◌≤◌, List, refl, ◌∙◌, arith}
use Rattle.disk_store.specs.Disks.{NoMore, Elapses, LeavesOnly}
use Rattle.site_journal.specs.Moments.{WasRead}
use Rattle.disk_store.specs.declared.disks.Disk.{Ghosts as ADisk}

module _ {D : Type 0} (k : ADisk D) where
  -- before the first call
  pub started : (old : D) (P : List ℕ → Type 0) → ((image : List ℕ) → k.left_since old (k.moment old) image → k.may_leave old image) →
      ((image : List ℕ) → k.may_leave old image → P image) → LeavesOnly k.moment k.left_since old old P
  started old P only here = record { later = omega arith; each = λ image left. here image (only image left); before = λ t image le left. inl left }

  -- one call more, after which a crash leaves what has P
  pub goes_on : (old mid new : D) (P : List ℕ → Type 0) → LeavesOnly k.moment k.left_since old mid P →
      Elapses (k.moment mid) (k.moment new) (k.left_since mid) (k.left_since new) (k.may_leave new)
      → ((image : List ℕ) → k.may_leave new image → P image) → LeavesOnly k.moment k.left_since old new P
  goes_on old mid new P so_far time here = record {
    later = omega (arith, so_far.later, time.later);
    each = λ image left. ⊎_elim (so_far.each image) (here image) (time.nothing_else (k.moment old) image so_far.later left);
    before = λ t image le left. ⊎_elim (so_far.before t image le) (λ now. inr (here image now))
        (time.nothing_else t image (omega (arith, le, so_far.later)) left);
  }

  pub read_none : (disk : D) → WasRead k disk disk
  read_none disk = record { same = refl; crash = λ image is. is; later = omega arith; since = λ t image le left. left }

  pub read_then : (a b c : D) → WasRead k a b → WasRead k b c →
      WasRead k a c
  read_then a b c p q = record {
    same = q.same ∙ p.same;
    crash = λ image is. p.crash image (q.crash image is);
    later = omega (arith, p.later, q.later);
    since = λ t image le left. p.since t image le (q.since t image (omega (arith, le, p.later)) left);
  }

  -- a call that only reads
  pub read_call : (old new : D) → ((t : ℕ) (image : List ℕ) → t ≤ k.moment old → k.may_leave old image → k.left_since old t image) → k.reads new ≡ k.reads old →
      NoMore (k.may_leave old) (k.may_leave new)
      → Elapses (k.moment old) (k.moment new) (k.left_since old) (k.left_since new) (k.may_leave new) → WasRead k old new
  read_call old new counts same crash time = record {
    same = same;
    crash = crash;
    later = time.later;
    since = λ t image le left. ⊎_elim (λ was. was) (λ now. counts t image le (crash image now)) (time.nothing_else t image le left);
  }

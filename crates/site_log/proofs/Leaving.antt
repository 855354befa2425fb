-- What a disk leaves while a log is opened on it.
use Rattle.std.proofs.Common.{◌≡◌, ◌⊎◌, inl, inr, ⊎_elim, ℕ, ◌≤◌, List, Result, Ok, Err, IfOk, IfErr, refl, sym, ◌∙◌, subst, arith}
use Rattle.disk_store.specs.Disks.{Bytewise, Follows, NoMore, Only, Elapses, LeavesOnly}
use Rattle.disk_store.specs.declared.disks.Disk.{Ghosts as ADisk}
use Rattle.site_log.specs.Opens.{WasRead}
use Rattle.site_log.proofs.Appending.{started, goes_on}

module _ {K : Type 0} (k : ADisk K) where
  pub read_none : (disk : K) → WasRead k disk disk
  read_none disk = record { same = refl; crash = λ image is. is; later = omega arith; since = λ t image le left. left }

  pub read_then : (a b c : K) → WasRead k a b → WasRead k b c → WasRead k a c
  read_then a b c p q = record {
    same = q.same ∙ p.same;
    crash = λ image is. p.crash image (q.crash image is);
    later = omega (arith, p.later, q.later);
    since = λ t image le left. p.since t image le (q.since t image (omega (arith, le, p.later)) left);
  }

  -- a call that only reads
  pub read_call : (old new : K) → ((t : ℕ) (image : List ℕ) → t ≤ k.moment old → k.may_leave old image → k.left_since old t image) → k.reads new ≡ k.reads old
      → NoMore (k.may_leave old) (k.may_leave new)
      → Elapses (k.moment old) (k.moment new) (k.left_since old) (k.left_since new) (k.may_leave new) → WasRead k old new
  read_call old new counts same crash time = record {
    same = same;
    crash = crash;
    later = time.later;
    since = λ t image le left. ⊎_elim (λ was. was) (λ now. counts t image le (crash image now)) (time.nothing_else t image le left);
  }

  -- a disk that was only read leaves what it might have left before
  pub read_leaves : (old new : K) (P : List ℕ → Type 0) → ((image : List ℕ) → k.left_since old (k.moment old) image → k.may_leave old image)
      → WasRead k old new → LeavesOnly k.moment k.left_since old new (λ image. k.may_leave old image ⊎ P image)
  read_leaves old new P only read = record {
    later = read.later;
    each = λ image left. inl (only image (read.since (k.moment old) image (omega arith) left));
    before = λ t image le left. inl (read.since t image le left);
  }

  -- and then what has P
  pub then_leaves : (old mid new : K) (P : List ℕ → Type 0) → ((image : List ℕ) → k.left_since old (k.moment old) image → k.may_leave old image)
      → WasRead k old mid → LeavesOnly k.moment k.left_since mid new (λ image. k.may_leave mid image ⊎ P image)
      → LeavesOnly k.moment k.left_since old new (λ image. k.may_leave old image ⊎ P image)
  then_leaves old mid new P only read leaves =
      let more : (image : List ℕ) → k.may_leave mid image ⊎ P image → k.may_leave old image ⊎ P image =
      λ image. ⊎_elim (λ was. inl (read.crash image was)) (λ p. inr p) in
      record {
        later = omega (arith, read.later, leaves.later);
        each = λ image left. ⊎_elim (λ was. inl (only image (read.since (k.moment old) image (omega arith) was))) (more image)
            (leaves.before (k.moment old) image read.later left);
        before = λ t image le left. ⊎_elim (λ was. inl (read.since t image le was)) (λ p. inr (more image p))
            (leaves.before t image (omega (arith, le, read.later)) left);
      }

  -- one run behind another
  pub chained : (old mid new : K) (P : List ℕ → Type 0) → LeavesOnly k.moment k.left_since old mid P → LeavesOnly k.moment k.left_since mid new P
      → LeavesOnly k.moment k.left_since old new P
  chained old mid new P p q = record {
    later = omega (arith, p.later, q.later);
    each = λ image left. ⊎_elim (p.each image) (λ is. is) (q.before (k.moment old) image p.later left);
    before = λ t image le left. ⊎_elim (p.before t image le) (λ is. inr is) (q.before t image (omega (arith, le, p.later)) left);
  }

-- bytes are written to a disk on which nothing is pending, and synced
module _ {K : Type 0} (k : ADisk K) (old : K) (P : List ℕ → Type 0) (place : ℕ) (bytes : List ℕ)
    (only : (image : List ℕ) → k.left_since old (k.moment old) image → k.may_leave old image) (durable : Only (k.reads old) (k.may_leave old)) (here : P (k.reads old))
    (torn : (image : List ℕ) → Bytewise place bytes (k.reads old) image → P image) where
  torn_images : (new : K) → Follows (Bytewise place bytes) (k.may_leave old) (k.may_leave new) → (image : List ℕ) → k.may_leave new image → P image
  torn_images new follows image left =
      let from = follows image left in
      torn image (subst (λ z. Bytewise place bytes z image) (durable from.0 from.1) from.2)

  at_rest : (image : List ℕ) → k.may_leave old image → P image
  at_rest image left = let same = durable image left in subst P (sym same) here

  pub write_leaves : (new : K) → Follows (Bytewise place bytes) (k.may_leave old) (k.may_leave new)
      → Elapses (k.moment old) (k.moment new) (k.left_since old) (k.left_since new) (k.may_leave new) → LeavesOnly k.moment k.left_since old new P
  write_leaves new follows time = goes_on k old old new P (started k old P only at_rest) time (torn_images new follows)

  pub sync_leaves : (mid new : K) → Follows (Bytewise place bytes) (k.may_leave old) (k.may_leave mid)
      → Elapses (k.moment old) (k.moment mid) (k.left_since old) (k.left_since mid) (k.may_leave mid) → NoMore (k.may_leave mid) (k.may_leave new)
      → Elapses (k.moment mid) (k.moment new) (k.left_since mid) (k.left_since new) (k.may_leave new) → LeavesOnly k.moment k.left_since old new P
  sync_leaves mid new follows time crashes later =
      goes_on k old mid new P (write_leaves mid follows time) later (λ image left. torn_images mid follows image (crashes image left))

-- a fact of a value by another
pub if_ok : {T E : Type 0} (r : Result T E) (P Q : T → Type 0) → IfOk r P → ((x : T) → P x → Q x) → IfOk r Q
if_ok (Ok x) P Q p f = f x p
if_ok (Err e) P Q p f = p

pub if_err : {T E : Type 0} (r : Result T E) (P Q : E → Type 0) → IfErr r P → ((x : E) → P x → Q x) → IfErr r Q
if_err (Ok x) P Q p f = p
if_err (Err e) P Q p f = f e p

pub if_err_both : {T E : Type 0} (r : Result T E) (P Q R : E → Type 0) → IfErr r P → IfErr r Q → ((x : E) → P x → Q x → R x) → IfErr r R
if_err_both (Ok x) P Q R p q f = p
if_err_both (Err e) P Q R p q f = f e p q

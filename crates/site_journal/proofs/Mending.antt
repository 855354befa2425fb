-- What a crash leaves while the end of a journal is mended.
use Rattle.std.proofs.Common.{◌≡◌, inl, inr, ℕ, ◌+◌, ◌<◌, ◌≤◌, List, [], ◌∷◌, ◌++◌, length, take, drop, get_or, sym, ap, ◌∙◌, subst, arith}
use Rattle.std.proofs.Common.{length-append, length-take}
use Rattle.std.specs.Prelude.{min}
use Rattle.std.proofs.Common.{Result, Ok, Err, OnOk}
use Rattle.std.proofs.lemmas.List.{drop_at, drop_all, drop_more}
use Rattle.disk_store.specs.Disks.{with_bytes, Torn, Shortened, Follows, NoMore, Only, Elapses, LeavesOnly}
use Rattle.site_journal.specs.Texts.{marked, EndsAt, HasEntries}
use Rattle.site_journal.specs.Moments.{IsAtRest, IsTorn, WasRead}
use Rattle.site_journal.proofs.Crash.{size, cut_keeps, cut_done, cut_ends, torn_last, written_last}
use Rattle.site_journal.proofs.Readings.{one}
use Rattle.site_journal.proofs.Times.{started, goes_on}
use Rattle.disk_store.specs.declared.disks.Disk.{Ghosts as ADisk}

-- a fact of a good answer by another
pub on_ok : {T E : Type 0} (r : Result T E) (P Q : Type 0) → OnOk r P → (P → Q) → OnOk r Q
on_ok (Ok x) P Q p f = f p
on_ok (Err e) P Q p f = p

module _ {D : Type 0} (k : ADisk D)
    (entries : List (List ℕ)) (place count : ℕ) (old : D) (t : IsTorn k old entries place count) where
  abbrev P : List ℕ → Type 0
  P = HasEntries entries

  pub torn_images : (image : List ℕ) → k.may_leave old image → P image
  torn_images image left = (t.rest, subst (λ z. EndsAt z entries t.rest) (sym (t.durable image left)) t.ends)

  pub start : ((image : List ℕ) → k.left_since old (k.moment old) image → k.may_leave old image) → LeavesOnly k.moment k.left_since old old P
  start only = started k old P only torn_images

  -- only reading
  pub read_torn : (new : D) → WasRead k old new → IsTorn k new entries place count
  read_torn new read = record {
    rest = t.rest;
    ends = subst (λ z. EndsAt z entries t.rest) (sym read.same) t.ends;
    durable = λ image left. t.durable image (read.crash image left) ∙ sym read.same;
    at = t.at;
    long = t.long ∙ ap length (sym read.same);
  }

  pub read_on : (new : D) → ((image : List ℕ) → k.left_since old (k.moment old) image → k.may_leave old image) →
      WasRead k old new → LeavesOnly k.moment k.left_since old new P
  read_on new only read = record {
    later = read.later;
    each = λ image left. torn_images image (only image (read.since (k.moment old) image (omega arith) left));
    before = λ time image le left. inl (read.since time image le left);
  }

  long_rest : place + 1 < count → 1 < length t.rest
  long_rest far = omega (arith, size (k.reads old) entries t.rest t.ends place t.at, t.long, far)

  few_rest : count ≤ place + 1 → length t.rest ≤ 1
  few_rest few = omega (arith, size (k.reads old) entries t.rest t.ends place t.at, t.long, few)

  cut_images : place + 1 < count → (d : D) → Follows (Shortened (place + 1)) (k.may_leave old) (k.may_leave d) → (image : List ℕ) → k.may_leave d image → P image
  cut_images far d follows image left =
      let from = follows image left in
      cut_keeps (k.reads old) entries t.rest t.ends place t.at (long_rest far) image (subst (λ z. Shortened (place + 1) z image) (t.durable from.0 from.1) from.2)

  pub cut_step : place + 1 < count → (d : D) → ((image : List ℕ) → k.left_since old (k.moment old) image → k.may_leave old image) →
      Follows (Shortened (place + 1)) (k.may_leave old) (k.may_leave d)
      → Elapses (k.moment old) (k.moment d) (k.left_since old) (k.left_since d) (k.may_leave d) → LeavesOnly k.moment k.left_since old d P
  cut_step far d only follows time = goes_on k old old d P (start only) time (cut_images far d follows)

  pub cut_synced : place + 1 < count → (d e : D) → ((image : List ℕ) → k.left_since old (k.moment old) image → k.may_leave old image) →
      Follows (Shortened (place + 1)) (k.may_leave old) (k.may_leave d)
      → Elapses (k.moment old) (k.moment d) (k.left_since old) (k.left_since d) (k.may_leave d) → NoMore (k.may_leave d) (k.may_leave e) →
      Elapses (k.moment d) (k.moment e) (k.left_since d) (k.left_since e) (k.may_leave e) → LeavesOnly k.moment k.left_since old e P
  cut_synced far d e only follows time crash time' =
      goes_on k old d e P (cut_step far d only follows time) time'
      (λ image left. cut_images far d follows image (crash image left))

  pub cut_torn : place + 1 < count → (d e : D) → k.reads d ≡ take (place + 1) (k.reads old) → k.reads e ≡ k.reads d → Only (k.reads d) (k.may_leave e) →
      IsTorn k e entries place (min count (place + 1))
  cut_torn far d e cut same only =
      let is : k.reads e ≡ marked entries ++ take 1 t.rest = same ∙ (cut ∙ cut_done (k.reads old) entries t.rest t.ends place t.at) in record {
        rest = take 1 t.rest;
        ends = subst (λ z. EndsAt z entries (take 1 t.rest)) (sym is) (cut_ends (k.reads old) entries t.rest t.ends place t.at (long_rest far));
        durable = subst (λ z. Only z (k.may_leave e)) (sym same) only;
        at = t.at;
        long = omega (arith, ap length is, length-append (marked entries) (take 1 t.rest), length-take 1 t.rest, long_rest far, t.at, far);
      }

  last_images : count ≤ place + 1 → (d : D) → Follows (Torn place 1) (k.may_leave old) (k.may_leave d) → (image : List ℕ) → k.may_leave d image → P image
  last_images few d follows image left =
      let from = follows image left in
      torn_last (k.reads old) entries t.rest t.ends place t.at (few_rest few) image (subst (λ z. Torn place 1 z image) (t.durable from.0 from.1) from.2)

  pub last_step : count ≤ place + 1 → (d : D) → ((image : List ℕ) → k.left_since old (k.moment old) image → k.may_leave old image) →
      Follows (Torn place 1) (k.may_leave old) (k.may_leave d)
      → Elapses (k.moment old) (k.moment d) (k.left_since old) (k.left_since d) (k.may_leave d) → LeavesOnly k.moment k.left_since old d P
  last_step few d only follows time = goes_on k old old d P (start only) time (last_images few d follows)

  pub last_synced : count ≤ place + 1 → (d e : D) → ((image : List ℕ) → k.left_since old (k.moment old) image → k.may_leave old image) →
      Follows (Torn place 1) (k.may_leave old) (k.may_leave d)
      → Elapses (k.moment old) (k.moment d) (k.left_since old) (k.left_since d) (k.may_leave d) → NoMore (k.may_leave d) (k.may_leave e) →
      Elapses (k.moment d) (k.moment e) (k.left_since d) (k.left_since e) (k.may_leave e) → LeavesOnly k.moment k.left_since old e P
  last_synced few d e only follows time crash time' =
      goes_on k old d e P (last_step few d only follows time) time'
      (λ image left. last_images few d follows image (crash image left))

  pub last_rest : count ≤ place + 1 → (d e : D) → k.reads d ≡ with_bytes (k.reads old) place (0 ∷ []) → k.reads e ≡ k.reads d → Only (k.reads d) (k.may_leave e) →
      IsAtRest k e entries
  last_rest few d e wrote same only = record {
    text = same ∙ (wrote ∙ written_last (k.reads old) entries t.rest t.ends place t.at (few_rest few));
    durable = subst (λ z. Only z (k.may_leave e)) (sym same) only;
  }

  -- the byte that was read is the end
  pub end_read : place < count → count ≤ place + 1 → (last : List ℕ) → last ≡ take 1 (drop place (k.reads old)) → get_or last 0 0 ≡ 0 → (new : D) →
      WasRead k old new → IsAtRest k new entries
  end_read some few last is zero new read =
      let first = drop_more (k.reads old) place 0 (omega (arith, t.long, some)) in
      let says : get_or last 0 0 ≡ get_or (k.reads old) place 0 = ap (λ z. get_or z 0 0) (is ∙ ap (take 1) first) in
      let none : drop (place + 1) (k.reads old) ≡ [] = drop_all (place + 1) (k.reads old) (omega (arith, t.long, few)) in
      let rest : t.rest ≡ 0 ∷ [] = sym (ap (drop place) t.ends.whole ∙ drop_at (marked entries) t.rest place (sym t.at))
      ∙ (first ∙ (λ i. (sym says ∙ zero) i ∷ none i)) in record {
        text = read.same ∙ (t.ends.whole ∙ ap (λ z. marked entries ++ z) rest);
        durable = λ image left. t.durable image (read.crash image left) ∙ sym read.same;
      }

-- what was found on a disk with nothing pending
pub torn_of : {D : Type 0} (k : ADisk D) (disk : D) (entries others : List (List ℕ)) (rest left : List ℕ)
    (place count : ℕ) → Only (k.reads disk) (k.may_leave disk)
    → EndsAt (k.reads disk) others left → EndsAt (k.reads disk) entries rest → place ≡ length (marked others) → count ≡ length (k.reads disk) →
    IsTorn k disk entries place count
torn_of k disk entries others rest left place count only found ends at long = record {
  rest = rest;
  ends = ends;
  durable = only;
  at = at ∙ ap (λ z. length (marked z)) (one (k.reads disk) others entries left rest found ends).0;
  long = long;
}

-- one run of calls, and then another
pub leaves_then : {D : Type 0} (k : ADisk D) (a b c : D) (P : List ℕ → Type 0) →
    LeavesOnly k.moment k.left_since a b P → LeavesOnly k.moment k.left_since b c P → LeavesOnly k.moment k.left_since a c P
leaves_then k a b c P p q = record {
  later = omega (arith, p.later, q.later);
  each = λ image left. elim (q.before (k.moment a) image p.later left) [ inl was ↦ p.each image was | inr now ↦ now ];
  before = λ t image le left. elim (q.before t image (omega (arith, le, p.later)) left) [ inl was ↦ p.before t image le was | inr now ↦ inr now ];
}

-- What a disk leaves at each moment, and the entries that an image has.
use Rattle.std.proofs.Common.{◌≡◌, inl, inr, ⊎_elim, ℕ, ◌≤◌, List, [], ◌∷◌, ◌++◌, refl, sym, ap, ◌∙◌, subst, arith, append_assoc}
use Rattle.std.proofs.lemmas.List.{append-nil}
use Rattle.std.specs.List.{AllByRecursion}
use Rattle.frame_cut.specs.Frames.{frame}
use Rattle.disk_store.specs.Disks.{LeavesOnly}
use Rattle.site_journal.specs.Texts.{IsEntry, journal_text, HasEntries, HasAllOrNone}
use Rattle.site_journal.specs.Moments.{IsAtRest}
use Rattle.site_journal.specs.Opened.{Mends}
use Rattle.durable_run.specs.Replies.{HasFront}
use Rattle.disk_store.specs.declared.disks.Disk.{Ghosts as ADisk}

abbrev first : List ℕ → ℕ
first [] = 7
first (x ∷ xs) = x

zero_not_one : (tail rest : List ℕ) → 0 ∷ tail ≡ 1 ∷ rest → ⊥
zero_not_one tail rest is = let e : 0 ≡ 1 = ap first is in omega (arith, e)

-- the entries of a journal text
pub text_has : (entries : List (List ℕ)) → AllByRecursion IsEntry entries → HasEntries entries (journal_text entries)
text_has entries each = (
  0 ∷ [],
  record {
    whole = refl;
    each = each;
    behind = inr (omega arith);
    ends = λ entry more is fits. absurd (zero_not_one [] (frame entry ++ more) is);
  },
)

-- bytes with a front of the entries have a front of these and more
pub front_more : (old now more : List (List ℕ)) (bytes : List ℕ) → HasFront old now bytes → HasFront old (now ++ more) bytes
front_more old now more bytes h = record {
  some = h.some;
  more = h.more ++ more;
  parts = ap (λ z. z ++ more) h.parts ∙ append_assoc (old ++ h.some) h.more more;
  has = h.has;
}

-- all of the staged entries or none, behind those that came since
pub front_of : (old new entries staged : List (List ℕ)) (bytes : List ℕ) → entries ≡ old ++ new → HasAllOrNone entries staged bytes →
    HasFront old (entries ++ staged) bytes
front_of old new entries staged bytes grew (inl none) = record {
  some = new;
  more = staged;
  parts = ap (λ z. z ++ staged) grew;
  has = subst (λ z. HasEntries z bytes) grew none;
}
front_of old new entries staged bytes grew (inr all) =
    let is : entries ++ staged ≡ old ++ (new ++ staged) = ap (λ z. z ++ staged) grew ∙ append_assoc old new staged in
    record {
      some = new ++ staged;
      more = [];
      parts = is ∙ sym (append-nil (old ++ (new ++ staged)));
      has = subst (λ z. HasEntries z bytes) is all;
    }

-- the entries that were found are a front of themselves
pub front_found : (entries : List (List ℕ)) (bytes : List ℕ) → HasEntries entries bytes → HasFront entries entries bytes
front_found entries bytes h = record {
  some = [];
  more = [];
  parts = sym (append-nil (entries ++ []) ∙ append-nil entries);
  has = subst (λ z. HasEntries z bytes) (sym (append-nil entries)) h;
}

module _ {K : Type 0} (k : ADisk K) where
  -- each image has what a weaker fact asks
  pub leaves_weaker : (a b : K) (P Q : List ℕ → Type 0) → LeavesOnly k.moment k.left_since a b P → ((image : List ℕ) → P image → Q image) →
      LeavesOnly k.moment k.left_since a b Q
  leaves_weaker a b P Q p f = record {
    later = p.later;
    each = λ image left. f image (p.each image left);
    before = λ t image le left. ⊎_elim (λ was. inl was) (λ now. inr (f image now)) (p.before t image le left);
  }

  pub leaves_then : (a b c : K) (P Q R : List ℕ → Type 0) → LeavesOnly k.moment k.left_since a b P → LeavesOnly k.moment k.left_since b c Q
      → ((image : List ℕ) → P image → R image) → ((image : List ℕ) → Q image → R image) → LeavesOnly k.moment k.left_since a c R
  leaves_then a b c P Q R p q f g = record {
    later = omega (arith, p.later, q.later);
    each = λ image left. ⊎_elim (λ was. f image (p.each image was)) (λ now. g image now) (q.before (k.moment a) image p.later left);
    before = λ t image le left. ⊎_elim
        (λ was. ⊎_elim (λ older. inl older) (λ some. inr (f image some)) (p.before t image le was))
        (λ now. inr (g image now)) (q.before t image (omega (arith, le, p.later)) left);
  }

  pub mends_weaker : (a b : K) (P Q : List ℕ → Type 0) → Mends k a b P → ((image : List ℕ) → P image → Q image) →
      Mends k a b Q
  mends_weaker a b P Q p f = (p.0, (p.1.0, leaves_weaker p.0 b P Q p.1.1 f))

  pub mends_then : (a b c : K) (P Q R : List ℕ → Type 0) → Mends k a b P → LeavesOnly k.moment k.left_since b c Q
      → ((image : List ℕ) → P image → R image) → ((image : List ℕ) → Q image → R image) → Mends k a c R
  mends_then a b c P Q R p q f g = (p.0, (p.1.0, leaves_then p.0 b c P Q R p.1.1 q f g))

  -- what a crash now may leave is what some moment since then left
  pub left_now : (a b : K) (P : List ℕ → Type 0) → ((t : ℕ) (image : List ℕ) → t ≤ k.moment b → k.may_leave b image → k.left_since b t image) →
      LeavesOnly k.moment k.left_since a b P → (image : List ℕ) → k.may_leave b image → P image
  left_now a b P counts p image leaves = p.each image (counts (k.moment a) image p.later leaves)

  -- a disk at rest leaves its entries
  pub rest_has : (disk : K) (entries : List (List ℕ)) → AllByRecursion IsEntry entries → IsAtRest k disk entries → (image : List ℕ) →
      k.may_leave disk image → HasEntries entries image
  rest_has disk entries each rest image leaves =
      subst (HasEntries entries) (sym (rest.durable image leaves ∙ rest.text)) (text_has entries each)

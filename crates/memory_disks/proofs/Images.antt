-- What a crash leaves, from the last good sync on.
use Rattle.std.proofs.Common.{◌≡◌, inl, inr, ℕ, ◌+◌, ◌≤◌, List, [], ◌∷◌, ◌++◌, length, take, drop, refl, sym, ap, ◌∙◌, subst, arith, take-append-drop}
use Rattle.std.proofs.Common.{length-drop}
use Rattle.std.proofs.lemmas.List.{drop-drop}
use Rattle.memory_disks.specs.declared.histories.Kept.{Kept}
use Rattle.memory_disks.specs.declared.histories.Kept.TheVariants.{Looked, Wrote, Tore, WroteBytewise, ToreBytewise, CutTo, MayCut, Synced, Replaced, MayReplace}
use Rattle.std.specs.Prelude.{Result, Ok, Err, IfOk, OnOk}
use Rattle.memory_disks.specs.Memory.{Call, Known, Recorded, fresh, after, known_after, known_of, Steps, IsImage, used, used_of, with_written}
use Rattle.memory_disks.specs.MemoryLaws.{steps_push, torn_same, bytewise_same, shortened_same, reads_is}
use Rattle.memory_disks.specs.Crashes.{IsSync, IsSettled, HasNoSync, read_after, read_after_all, IsSince}
use Rattle.memory_disks.proofs.Calls.{known_more}

pub used_split : (one other : List Kept) → used_of (one ++ other) ≡ used_of one + used_of other
used_split [] other = omega arith
used_split (kept ∷ one) other = omega (arith, used_split one other)

pub with_split : (one other : List Kept) (written : List ℕ) → with_written (one ++ other) written ≡ with_written one written
    ++ with_written other (drop (used_of one) written)
with_split [] other written = refl
with_split (kept ∷ one) other written =
    let rest = with_split one other (drop (used kept) written) in
    let back = drop-drop (used_of one) (used kept) written in
    ap (λ z. (kept, take (used kept) written) ∷ z) (rest ∙ ap (λ w. with_written one (drop (used kept) written) ++ with_written other w) back)

known_split : (s : Known) (one other : List Call) → known_after s (one ++ other) ≡ known_after (known_after s one) other
known_split s [] other = refl
known_split s (call ∷ one) other = known_split (after s call) one other

reads_one : (s : Known) (call : Call) → read_after s.reads call ≡ (after s call).reads
reads_one s (Looked, bytes) = refl
reads_one s (Wrote place count, bytes) = refl
reads_one s (Tore place count, bytes) = refl
reads_one s (WroteBytewise place count, bytes) = refl
reads_one s (ToreBytewise place count, bytes) = refl
reads_one s (CutTo len, bytes) = refl
reads_one s (MayCut len, bytes) = refl
reads_one s (Synced, bytes) = refl
reads_one s (Replaced count, bytes) = refl
reads_one s (MayReplace count, bytes) = refl

-- what a read gives goes by the calls alone
pub reads_by : (s : Known) (calls : List Call) → read_after_all s.reads calls ≡ (known_after s calls).reads
reads_by s [] = refl
reads_by s (call ∷ calls) = ap (λ b. read_after_all b calls) (reads_one s call) ∙ reads_by (after s call) calls

-- after a sync or a replacement nothing is pending
synced_fresh : (s : Known) (kept : Kept) (bytes : List ℕ) → IsSync kept → after s (kept, bytes) ≡ fresh (after s (kept, bytes)).reads
synced_fresh s Looked bytes is = absurd is
synced_fresh s (Wrote place count) bytes is = absurd is
synced_fresh s (Tore place count) bytes is = absurd is
synced_fresh s (WroteBytewise place count) bytes is = absurd is
synced_fresh s (ToreBytewise place count) bytes is = absurd is
synced_fresh s (CutTo len) bytes is = absurd is
synced_fresh s (MayCut len) bytes is = absurd is
synced_fresh s Synced bytes is = refl
synced_fresh s (Replaced count) bytes is = refl
synced_fresh s (MayReplace count) bytes is = absurd is

settled_fresh : (first : List ℕ) (calls : List Kept) (written : List ℕ) → IsSettled calls → known_after (fresh first) (with_written calls written)
    ≡ fresh (known_after (fresh first) (with_written calls written)).reads
settled_fresh first calls written (inl none) = subst (λ ks. known_after (fresh first) (with_written ks written)
    ≡ fresh (known_after (fresh first) (with_written ks written)).reads) (sym none) refl
settled_fresh first calls written (inr (before, last, sync, is)) =
    let done = with_written before written in
    let bytes : List ℕ = take (used last) (drop (used_of before) written) in
    let all : with_written calls written ≡ done ++ (last, bytes) ∷ [] = ap (λ ks. with_written ks written) is ∙ with_split before (last ∷ []) written in
    let known : known_after (fresh first) (with_written calls written) ≡ after (known_after (fresh first) done) (last, bytes) = ap (known_after (fresh first)) all
    ∙ known_more (fresh first) done (last, bytes) in
    known ∙ (synced_fresh (known_after (fresh first) done) last bytes sync ∙ sym (ap (λ s. fresh s.reads) known))

-- without a sync the base stays
base_stays : (s : Known) (calls : List Kept) (written : List ℕ) → HasNoSync calls → (known_after s (with_written calls written)).base ≡ s.base
base_stays s [] written none = refl
base_stays s (Looked ∷ calls) written none = base_stays s calls (drop 0 written) none.1
base_stays s (Wrote place count ∷ calls) written none = base_stays (after s (Wrote place count, take count written)) calls (drop count written) none.1
base_stays s (Tore place count ∷ calls) written none = base_stays (after s (Tore place count, take 0 written)) calls (drop 0 written) none.1
base_stays s (WroteBytewise place count ∷ calls) written none = base_stays (after s (WroteBytewise place count, take count written)) calls (drop count written) none.1
base_stays s (ToreBytewise place count ∷ calls) written none = base_stays (after s (ToreBytewise place count, take count written)) calls (drop count written) none.1
base_stays s (CutTo len ∷ calls) written none = base_stays (after s (CutTo len, take 0 written)) calls (drop 0 written) none.1
base_stays s (MayCut len ∷ calls) written none = base_stays (after s (MayCut len, take 0 written)) calls (drop 0 written) none.1
base_stays s (Synced ∷ calls) written none = absurd (none.0 tt)
base_stays s (Replaced count ∷ calls) written none = absurd (none.0 tt)
base_stays s (MayReplace count ∷ calls) written none = base_stays (after s (MayReplace count, take count written)) calls (drop count written) none.1

-- steps by calls among which no sync is lead from images to images
pub image_on : (s : Known) (calls : List Kept) (written old image : List ℕ) → HasNoSync calls → IsImage s old →
    Steps old (with_written calls written) image → IsImage (known_after s (with_written calls written)) image
image_on s [] written old image none is steps = subst (IsImage s) (sym steps) is
image_on s (Looked ∷ calls) written old image none is steps =
    image_on s calls (drop 0 written) steps.0 image none.1 (subst (IsImage s) (sym steps.1.0) is) steps.1.1
image_on s (Wrote place count ∷ calls) written old image none is steps =
    let call : Call = (Wrote place count, take count written) in
    image_on (after s call) calls (drop count written) steps.0 image none.1 (steps_push s.base s.pending call old steps.0 is steps.1.0) steps.1.1
image_on s (Tore place count ∷ calls) written old image none is steps =
    let call : Call = (Tore place count, take 0 written) in
    image_on (after s call) calls (drop 0 written) steps.0 image none.1 (steps_push s.base s.pending call old steps.0 is steps.1.0) steps.1.1
image_on s (WroteBytewise place count ∷ calls) written old image none is steps =
    let call : Call = (WroteBytewise place count, take count written) in
    image_on (after s call) calls (drop count written) steps.0 image none.1 (steps_push s.base s.pending call old steps.0 is steps.1.0) steps.1.1
image_on s (ToreBytewise place count ∷ calls) written old image none is steps =
    let call : Call = (ToreBytewise place count, take count written) in
    image_on (after s call) calls (drop count written) steps.0 image none.1 (steps_push s.base s.pending call old steps.0 is steps.1.0) steps.1.1
image_on s (CutTo len ∷ calls) written old image none is steps =
    let call : Call = (CutTo len, take 0 written) in
    image_on (after s call) calls (drop 0 written) steps.0 image none.1 (steps_push s.base s.pending call old steps.0 is steps.1.0) steps.1.1
image_on s (MayCut len ∷ calls) written old image none is steps =
    let call : Call = (MayCut len, take 0 written) in
    image_on (after s call) calls (drop 0 written) steps.0 image none.1 (steps_push s.base s.pending call old steps.0 is steps.1.0) steps.1.1
image_on s (Synced ∷ calls) written old image none is steps = absurd (none.0 tt)
image_on s (Replaced count ∷ calls) written old image none is steps = absurd (none.0 tt)
image_on s (MayReplace count ∷ calls) written old image none is steps =
    let call : Call = (MayReplace count, take count written) in
    image_on (after s call) calls (drop count written) steps.0 image none.1 (steps_push s.base s.pending call old steps.0 is steps.1.0) steps.1.1

-- what the last good sync left is an image
base_after : (s : Known) (call : Call) → IsImage s s.base → IsImage (after s call) (after s call).base
base_after s (Looked, bytes) is = is
base_after s (Wrote place count, bytes) is = steps_push s.base s.pending (Wrote place count, bytes) s.base s.base is (torn_same place (length bytes) s.base)
base_after s (Tore place count, bytes) is = steps_push s.base s.pending (Tore place count, bytes) s.base s.base is (torn_same place count s.base)
base_after s (WroteBytewise place count, bytes) is = steps_push s.base s.pending (WroteBytewise place count, bytes) s.base s.base is
    (bytewise_same place bytes s.base)
base_after s (ToreBytewise place count, bytes) is = steps_push s.base s.pending (ToreBytewise place count, bytes) s.base s.base is
    (bytewise_same place bytes s.base)
base_after s (CutTo len, bytes) is = steps_push s.base s.pending (CutTo len, bytes) s.base s.base is (shortened_same len s.base)
base_after s (MayCut len, bytes) is = steps_push s.base s.pending (MayCut len, bytes) s.base s.base is (shortened_same len s.base)
base_after s (Synced, bytes) is = refl
base_after s (Replaced count, bytes) is = refl
base_after s (MayReplace count, bytes) is = steps_push s.base s.pending (MayReplace count, bytes) s.base s.base is (inl refl)

pub base_is : (s : Known) (calls : List Call) → IsImage s s.base → IsImage (known_after s calls) (known_after s calls).base
base_is s [] is = is
base_is s (call ∷ calls) is = base_is (after s call) calls (base_after s call is)

-- calls up to a sync, and those since
pub record Cut (first : List ℕ) (calls one other : List Kept) (written : List ℕ) : Type 0 where
  pub base : read_after_all first (with_written one written) ≡ (known_after (fresh first) (with_written calls written)).base
  pub since : IsSince (known_after (fresh first) (with_written calls written)) (with_written other (drop (used_of one) written))

pub cut_at : (first : List ℕ) (calls one other : List Kept) (written : List ℕ) → one ++ other ≡ calls → IsSettled one → HasNoSync other →
    Cut first calls one other written
cut_at first calls one other written is settled none = record {
  base = reads_by (fresh first) done ∙ sym base;
  since = λ image steps. subst (λ s. IsImage s image) (sym known)
      (image_on (fresh left) other rest left image none refl (subst (λ b. Steps b later image) base steps));
}
  where
    done : List Call
    done = with_written one written

    rest : List ℕ
    rest = drop (used_of one) written

    later : List Call
    later = with_written other rest

    left : List ℕ
    left = (known_after (fresh first) done).reads

    known : known_after (fresh first) (with_written calls written) ≡ known_after (fresh left) later
    known = ap (λ ks. known_after (fresh first) (with_written ks written)) (sym is)
        ∙ (ap (known_after (fresh first)) (with_split one other written)
        ∙ (known_split (fresh first) done later
        ∙ ap (λ s. known_after s later) (settled_fresh first one written settled)))

    base : (known_after (fresh first) (with_written calls written)).base ≡ left
    base = ap (λ s. s.base) known ∙ base_stays (fresh left) other rest none

pub cut_here : (first : List ℕ) (calls : List Kept) (written : List ℕ) (n : ℕ) → IsSettled (take n calls) → HasNoSync (drop n calls) →
    Cut first calls (take n calls) (drop n calls) written
cut_here first calls written n settled none = cut_at first calls (take n calls) (drop n calls) written (take-append-drop n calls) settled none

-- the same of what is seen of the calls and the bytes
pub since_seen : (first : List ℕ) (calls later : List Kept) (written rest : List ℕ) (n : ℕ) (known : Known) →
    Cut first calls (take n calls) (drop n calls) written → known_after (fresh first) (with_written calls written) ≡ known
    → later ≡ drop n calls → rest ≡ drop (used_of (take n calls)) written → IsSince known (with_written later rest)
since_seen first calls later written rest n known cut is late left =
    subst (λ s. IsSince s (with_written later rest)) is
    (subst (λ ks. IsSince (known_after (fresh first) (with_written calls written)) (with_written ks rest)) (sym late)
    (subst (λ w. IsSince (known_after (fresh first) (with_written calls written)) (with_written (drop n calls) w)) (sym left) cut.since))

pub used_front : (calls : List Kept) (written : List ℕ) (n : ℕ) → used_of calls ≡ length written → used_of (take n calls) ≤ length written
used_front calls written n all =
    omega (arith, used_split (take n calls) (drop n calls), ap used_of (take-append-drop n calls), all)

pub used_back : (calls later : List Kept) (written rest : List ℕ) (n : ℕ) → used_of calls ≡ length written → later ≡ drop n calls →
    rest ≡ drop (used_of (take n calls)) written → used_of later ≤ length rest
used_back calls later written rest n all late left =
    omega (
      arith,
      used_split (take n calls) (drop n calls),
      ap used_of (take-append-drop n calls),
      all,
      ap used_of late,
      ap length left,
      length-drop (used_of (take n calls)) written,
    )

pub reads_image : (r : Recorded) (bytes : List ℕ) → bytes ≡ (known_of r).reads → IsImage (known_of r) bytes
reads_image r bytes is = subst (IsImage (known_of r)) (sym is) (reads_is (fresh r.first) r.calls refl)

pub base_image : (r : Recorded) (bytes : List ℕ) → bytes ≡ (known_of r).base → IsImage (known_of r) bytes
base_image r bytes is = subst (IsImage (known_of r)) (sym is) (base_is (fresh r.first) r.calls refl)

pub if_ok : {T E : Type 0} (r : Result T E) (P Q : T → Type 0) → ((v : T) → P v → Q v) → IfOk r P → IfOk r Q
if_ok (Ok v) P Q step is = step v is
if_ok (Err e) P Q step is = is

pub on_ok : {T E : Type 0} (r : Result T E) (P Q : Type 0) → (P → Q) → OnOk r P → OnOk r Q
on_ok (Ok v) P Q step is = step is
on_ok (Err e) P Q step is = is

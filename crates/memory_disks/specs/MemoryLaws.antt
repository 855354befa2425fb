-- Laws of a disk in memory.
use Rattle.std.proofs.Common.{◌≡◌, ℕ, ◌⊎◌, ◌+◌, ◌-◌, ◌<◌, ◌≤◌, List, [], ◌∷◌, ◌++◌, length, take, drop, refl, sym, ap, ◌∙◌, subst, inl, inr, arith, append_assoc, append-nil}
use Rattle.std.proofs.Common.{length-take, length-drop, length-append}
use Rattle.std.specs.Prelude.{min, max, replicate, slice_index}
use Rattle.std.proofs.lemmas.Bool.{cases_lt}
use Rattle.std.proofs.lemmas.List.{length-replicate, take_at, drop_at, take_all, drop_all, get_or_append_left, get_or-append_right, get_or-take, get_or-drop, get_or_past}
use Rattle.memory_disks.specs.declared.histories.Kept.TheVariants.{Looked, Wrote, Tore, WroteBytewise, ToreBytewise, CutTo, MayCut, Synced, Replaced, MayReplace}
use Rattle.disk_store.specs.Disks.{with_bytes, Torn, Bytewise, Shortened}
use Rattle.memory_disks.specs.Memory.{Call, Known, with_zeros, after, known_after, IsStep, Steps, IsImage, LeftSince}

pub length_written : (place : ℕ) (old bytes : List ℕ)
    → length (with_bytes old place bytes) ≡ min place (length old) + length bytes + (length old - (place + length bytes))
length_written place old bytes =
    omega (
      arith,
      length-append (take place old ++ bytes) (drop (place + length bytes) old),
      length-append (take place old) bytes,
      length-take place old,
      length-drop (place + length bytes) old,
    )

-- a write that is done is one of those that a crash may cut short
pub torn_written : (place : ℕ) (old bytes : List ℕ) → Torn place (length bytes) old (with_bytes old place bytes)
torn_written place old bytes =
    let rest : List ℕ = drop (place + length bytes) old in
    let long = length_written place old bytes in record {
      before = ap (take (min place (length old))) (append_assoc (take place old) bytes rest)
          ∙ take_at (take place old) (bytes ++ rest) (min place (length old)) (length-take place old);
      after = elim (cases_lt (length old) place) [
        | inl past ↦
            let none : drop (place + length bytes) (with_bytes old place bytes) ≡ [] =
            drop_all (place + length bytes) (with_bytes old place bytes) (omega (arith, long, past)) in
            none ∙ sym (drop_all (place + length bytes) old (omega (arith, past)))
        | inr within ↦ drop_at (take place old ++ bytes) rest (place + length bytes)
            (omega (arith, length-append (take place old) bytes, length-take place old, within))
      ];
      no_shorter = omega (arith, long);
      no_longer = omega (arith, long);
    }

-- a cut that is done is one of those that may have been made in part
pub shortened : (len : ℕ) (old : List ℕ) → Shortened len old (take len old)
shortened len old =
    let long = length-take len old in record {
      no_shorter = omega (arith, long);
      front = elim (cases_lt (length old) len) [
        | inl past ↦
            let all = take_all len old (omega (arith, past)) in
            let n : length (take len old) ≡ length old = ap length all in
            all ∙ sym (take_all (length (take len old)) old (omega (arith, n)))
        | inr within ↦ let n : length (take len old) ≡ len = omega (arith, long, within) in sym (ap (λ k. take k old) n)
      ];
    }

-- a byte past the end counts as 0
none_is_zero : (count n : ℕ) → slice_index (replicate count 0) n ≡ 0
none_is_zero ℕ.zero n = refl
none_is_zero (ℕ.suc count) ℕ.zero = refl
none_is_zero (ℕ.suc count) (ℕ.suc n) = none_is_zero count n

pub zeros_index : (bytes : List ℕ) (place n : ℕ) → slice_index (with_zeros bytes place) n ≡ slice_index bytes n
zeros_index bytes place n =
    let zeros : List ℕ = replicate (place - length bytes) 0 in
    elim (cases_lt n (length bytes)) [
      | inl below ↦ get_or_append_left bytes zeros 0 n below
      | inr past ↦ get_or-append_right bytes zeros (length bytes) n 0 refl (omega (arith, past))
          ∙ (none_is_zero (place - length bytes) (n - length bytes) ∙ sym (get_or_past bytes n 0 (omega (arith, past))))
    ]

pub length_zeros : (bytes : List ℕ) (place : ℕ) → length (with_zeros bytes place) ≡ max (length bytes) place
length_zeros bytes place =
    let zeros : List ℕ = replicate (place - length bytes) 0 in
    let count : length zeros ≡ place - length bytes = length-replicate (place - length bytes) 0 in
    omega (arith, length-append bytes zeros, count)

-- where there is nothing between they add nothing
pub zeros_none : (bytes : List ℕ) (place : ℕ) → place ≤ length bytes → with_zeros bytes place ≡ bytes
zeros_none bytes place within = let none : place - length bytes ≡ 0 = omega (arith, within) in ap (λ n. bytes ++ replicate n 0) none ∙ append-nil bytes

-- what stands at a place after a write
abbrev OldOrNew : ℕ → List ℕ → List ℕ → List ℕ → ℕ → Type 0
OldOrNew place bytes old new n =
    (slice_index new n ≡ slice_index old n) ⊎ ((place ≤ n) × (n < place + length bytes) × (slice_index new n ≡ slice_index bytes (n - place)))

written_index : (place : ℕ) (old bytes : List ℕ) (n : ℕ) → place ≤ length old → OldOrNew place bytes old (with_bytes old place bytes) n
written_index place old bytes n within =
    let front : List ℕ = take place old in
    let back : List ℕ = drop (place + length bytes) old in
    let long : length front ≡ place = omega (arith, length-take place old, within) in
    let longer : length (front ++ bytes) ≡ place + length bytes = omega (arith, length-append front bytes, long) in
    elim (cases_lt n (place + length bytes)) [
      | inl below ↦ let first = get_or_append_left (front ++ bytes) back 0 n (omega (arith, below, longer)) in elim (cases_lt n place) [
        | inl before ↦ inl (first ∙ (get_or_append_left front bytes 0 n (omega (arith, before, long)) ∙ get_or-take place old n 0 before))
        | inr from ↦ inr (omega (arith, from), below, first ∙ get_or-append_right front bytes place n 0 long (omega (arith, from)))
      ]
      | inr past ↦
          let there : place + length bytes + (n - (place + length bytes)) ≡ n = omega (arith, past) in
          inl (get_or-append_right (front ++ bytes) back (place + length bytes) n 0 longer (omega (arith, past))
          ∙ (get_or-drop (place + length bytes) old (n - (place + length bytes)) 0 ∙ ap (slice_index old) there))
    ]

-- one bytewise write over another of the same bytes
pub bytewise_more : (place : ℕ) (bytes old mid new : List ℕ) → Bytewise place bytes old mid → Bytewise place bytes mid new → Bytewise place bytes old new
bytewise_more place bytes old mid new one other = record {
  each = λ n below. elim (other.each n below) [
    | inl same ↦ elim (cases_lt n (length mid)) [
      | inl within ↦ elim (one.each n within) [
        | inl is ↦ inl (same ∙ is)
        | inr is ↦ inr (is.0, is.1, same ∙ is.2)
      ]
      | inr past ↦ inl (same ∙ (get_or_past mid n 0 (omega (arith, past)) ∙ sym (get_or_past old n 0 (omega (arith, past, one.no_shorter)))))
    ]
    | inr is ↦ inr is
  ];
  no_shorter = omega (arith, one.no_shorter, other.no_shorter);
  no_longer = omega (arith, one.no_longer, other.no_longer);
}

-- zeros up to a place within reach
pub bytewise_zeros : (place to : ℕ) (old bytes : List ℕ) → to ≤ place + length bytes → Bytewise place bytes old (with_zeros old to)
bytewise_zeros place to old bytes within =
    let long = length_zeros old to in record {
      each = λ n below. inl (zeros_index old to n);
      no_shorter = omega (arith, long);
      no_longer = omega (arith, long, within);
    }

-- a bytewise write that is done is one of those that a crash may leave in part
pub bytewise_written : (place : ℕ) (old bytes : List ℕ) → Bytewise place bytes old (with_bytes (with_zeros old place) place bytes)
bytewise_written place old bytes =
    let mid : List ℕ = with_zeros old place in
    let long = length_zeros old place in
    let longer = length_written place mid bytes in
    bytewise_more place bytes old mid (with_bytes mid place bytes) (bytewise_zeros place place old bytes (omega arith)) (record {
      each = λ n below. written_index place mid bytes n (omega (arith, long));
      no_shorter = omega (arith, longer, long);
      no_longer = omega (arith, longer, long);
    })

pub bytewise_same : (place : ℕ) (bytes image : List ℕ) → Bytewise place bytes image image
bytewise_same place bytes image = record { each = λ n below. inl refl; no_shorter = omega arith; no_longer = omega arith }

-- one more step
pub steps_push : (base : List ℕ) (calls : List Call) (call : Call) (old image : List ℕ) → Steps base calls old → IsStep call old image
    → Steps base (calls ++ call ∷ []) image
steps_push base [] call old image steps step = (image, (subst (λ b. IsStep call b image) steps step, refl))
steps_push base (first ∷ calls) call old image steps step = (steps.0, (steps.1.0, steps_push steps.0 calls call old image steps.1.1 step))

pub steps_last : (base : List ℕ) (calls : List Call) (call : Call) (image : List ℕ) → Steps base (calls ++ call ∷ []) image
    → (old : List ℕ) × (Steps base calls old × IsStep call old image)
steps_last base [] call image steps = (base, (refl, subst (λ i. IsStep call base i) (sym steps.1.1) steps.1.0))
steps_last base (first ∷ calls) call image steps =
    let more = steps_last steps.0 calls call image steps.1.1 in
    (more.0, ((steps.0, (steps.1.0, more.1.0)), more.1.1))

-- an image may stay as it is
pub torn_same : (place count : ℕ) (image : List ℕ) → Torn place count image image
torn_same place count image = record { before = kept; after = refl; no_shorter = omega arith; no_longer = omega arith }
  where
    kept : take (min place (length image)) image ≡ take place image
    kept = elim (cases_lt (length image) place) [
      | inl past ↦ take_all (min place (length image)) image (omega (arith, past)) ∙ sym (take_all place image (omega (arith, past)))
      | inr within ↦ let n : min place (length image) ≡ place = omega (arith, within) in ap (λ k. take k image) n
    ]

pub shortened_same : (len : ℕ) (image : List ℕ) → Shortened len image image
shortened_same len image = record { no_shorter = omega arith; front = sym (take_all (length image) image (omega arith)) }

-- what a read gives is an image after one more call
reads_after : (s : Known) (call : Call) → IsImage s s.reads → IsImage (after s call) (after s call).reads
reads_after s (Looked, bytes) is = is
reads_after s (Wrote place count, bytes) is = steps_push s.base s.pending (Wrote place count, bytes) s.reads (with_bytes s.reads place bytes) is
    (torn_written place s.reads bytes)
reads_after s (Tore place count, bytes) is = steps_push s.base s.pending (Tore place count, bytes) s.reads s.reads is (torn_same place count s.reads)
reads_after s (WroteBytewise place count, bytes) is = steps_push s.base s.pending (WroteBytewise place count, bytes) s.reads
    (with_bytes (with_zeros s.reads place) place bytes) is (bytewise_written place s.reads bytes)
reads_after s (ToreBytewise place count, bytes) is = steps_push s.base s.pending (ToreBytewise place count, bytes) s.reads s.reads is
    (bytewise_same place bytes s.reads)
reads_after s (CutTo len, bytes) is = steps_push s.base s.pending (CutTo len, bytes) s.reads (take len s.reads) is (shortened len s.reads)
reads_after s (MayCut len, bytes) is = steps_push s.base s.pending (MayCut len, bytes) s.reads s.reads is (shortened_same len s.reads)
reads_after s (Synced, bytes) is = refl
reads_after s (Replaced count, bytes) is = refl
reads_after s (MayReplace count, bytes) is = steps_push s.base s.pending (MayReplace count, bytes) s.reads s.reads is (inl refl)

pub reads_is : (s : Known) (calls : List Call) → IsImage s s.reads → IsImage (known_after s calls) (known_after s calls).reads
reads_is s [] is = is
reads_is s (call ∷ calls) is = reads_is (after s call) calls (reads_after s call is)

-- this moment is one of those since an earlier one
pub counts_now : (t : ℕ) (s : Known) (calls : List Call) (image : List ℕ) → t ≤ length calls → IsImage (known_after s calls) image → LeftSince t s calls image
counts_now ℕ.zero s [] image le is = is
counts_now ℕ.zero s (call ∷ calls) image le is = inr (counts_now ℕ.zero (after s call) calls image (omega arith) is)
counts_now (ℕ.suc t) s [] image le is = absurd (omega arith)
counts_now (ℕ.suc t) s (call ∷ calls) image le is = counts_now t (after s call) calls image (omega arith) is

-- since this moment there is no other
pub only_now : (s : Known) (calls : List Call) (image : List ℕ) → LeftSince (length calls) s calls image → IsImage (known_after s calls) image
only_now s [] image left = left
only_now s (call ∷ calls) image left = only_now (after s call) calls image left

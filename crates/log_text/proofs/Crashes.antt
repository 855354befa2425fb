-- What a crash leaves of a log.
use Rattle.std.proofs.Common.{◌≡◌, ℕ, ◌≢◌, ◌⊎◌, List, [], ◌∷◌, ◌++◌, length, drop, get_or, refl, sym, ap, ◌∙◌, subst, inl, inr, arith, append_assoc, append-nil}
use Rattle.std.specs.List.{AllByRecursion}
use Rattle.log_text.specs.Texts.{coded, entry, log_text, HasNoZero, IsZeros, IsItem, Mixed, Reads}
use Rattle.log_text.proofs.Apart.{coded_has_none, entry_has_no_zero, text_has_no_zero, same_entry}
use Rattle.log_text.proofs.Readings.{text_goes_on, no_entry_in_zeros, behind_items}

-- what is mixed of two texts is mixed of the same in the other order
pub mixed_turned : (old new image : List ℕ) → Mixed old new image → Mixed new old image
mixed_turned [] [] [] m = tt
mixed_turned (a ∷ old) (b ∷ new) (c ∷ image) m = ((elim m.0 [ inl x ↦ inr x | inr y ↦ inl y ]), mixed_turned old new image m.1)
mixed_turned [] [] (c ∷ image) m = absurd m
mixed_turned [] (b ∷ new) image m = absurd m
mixed_turned (a ∷ old) [] image m = absurd m
mixed_turned (a ∷ old) (b ∷ new) [] m = absurd m

pub mixed_parts : (old new image later_old later_new later_image : List ℕ) → Mixed old new image → Mixed later_old later_new later_image
    → Mixed (old ++ later_old) (new ++ later_new) (image ++ later_image)
mixed_parts [] [] [] o n i m l = l
mixed_parts (a ∷ old) (b ∷ new) (c ∷ image) o n i m l = (m.0, mixed_parts old new image o n i m.1 l)
mixed_parts [] [] (c ∷ image) o n i m l = absurd m
mixed_parts [] (b ∷ new) image o n i m l = absurd m
mixed_parts (a ∷ old) [] image o n i m l = absurd m
mixed_parts (a ∷ old) (b ∷ new) [] o n i m l = absurd m

-- what is left of the old bytes, the new ones and the image behind a front
pub record Behind (front rest new : List ℕ) : Type 0 where
  pub old : List ℕ
  pub more : List ℕ
  pub zeros : IsZeros old
  pub new_is : new ≡ front ++ more
  pub mixed : Mixed old more rest

-- a front without a zero of what was left of zeros and new bytes is a front of the new ones
pub front_is_new : (front rest old new image : List ℕ) → IsZeros old → Mixed old new image → image ≡ front ++ rest → HasNoZero front → Behind front rest new
front_is_new [] rest old new image z m e n = record { old = old; more = new; zeros = z; new_is = refl; mixed = subst (Mixed old new) e m }
front_is_new (f ∷ front) rest (a ∷ old) (b ∷ new) (c ∷ image) z m e n =
    let here : c ≡ f = ap (λ l. get_or l 0 0) e in
    let more = front_is_new front rest old new image z.1 m.1 (ap (drop 1) e) n.1 in
    record {
      old = more.old;
      more = more.more;
      zeros = more.zeros;
      new_is = elim m.0 [
        | inl is_old ↦ absurd (n.0 (sym here ∙ (is_old ∙ z.0)))
        | inr is_new ↦ ap (λ k. k ∷ new) (sym is_new ∙ here) ∙ ap (λ l. f ∷ l) more.new_is
      ];
      mixed = more.mixed;
    }
front_is_new (f ∷ front) rest [] [] [] z m e n = let long = ap length e in absurd (omega (arith, long))
front_is_new (f ∷ front) rest [] [] (c ∷ image) z m e n = absurd m
front_is_new (f ∷ front) rest [] (b ∷ new) image z m e n = absurd m
front_is_new (f ∷ front) rest (a ∷ old) [] image z m e n = absurd m
front_is_new (f ∷ front) rest (a ∷ old) (b ∷ new) [] z m e n = absurd m

-- what is read of an image is a front of what was to come
read_is_front : (front more : List (List ℕ)) (old zeros image rest : List ℕ) → IsZeros old → IsZeros zeros → Mixed old (log_text more ++ zeros) image
    → image ≡ log_text front ++ rest → (later : List (List ℕ)) × (more ≡ front ++ later)
read_is_front [] more old zeros image rest o z m e = (more, refl)
read_is_front (item ∷ front) [] old zeros image rest o z m e =
    let b = front_is_new (entry item) (log_text front ++ rest) old zeros image o m (e ∙ text_goes_on item front rest) (entry_has_no_zero item) in
    absurd (no_entry_in_zeros zeros item b.more z b.new_is)
read_is_front (item ∷ front) (other ∷ more) old zeros image rest o z m e =
    let b = front_is_new (entry item) (log_text front ++ rest) old (log_text (other ∷ more) ++ zeros) image o m (e ∙ text_goes_on item front rest)
    (entry_has_no_zero item) in
    let same = same_entry other item (log_text more ++ zeros) b.more (sym (text_goes_on other more zeros) ∙ b.new_is) in
    let later = read_is_front front more b.old zeros (log_text front ++ rest) rest b.zeros z (subst (λ l. Mixed b.old l (log_text front ++ rest)) (sym same.1) b.mixed) refl in
    (later.0, λ i. same.0 i ∷ later.1 i)

pub crash_leaves_front : (items more found : List (List ℕ)) (old zeros image rest : List ℕ) → AllByRecursion IsItem items → IsZeros old → IsZeros zeros
    → Mixed old (log_text more ++ zeros) image → Reads (log_text items ++ image) found rest
    → (front : List (List ℕ)) × ((later : List (List ℕ)) × ((found ≡ items ++ front) × (more ≡ front ++ later)))
crash_leaves_front items more found old zeros image rest a o z m r =
    let behind = behind_items items found image rest a r in
    let later = read_is_front behind.0 more old zeros image rest o z m behind.1.1.whole in
    (behind.0, (later.0, (behind.1.0, later.1)))

-- a list of one is a front of itself or none
one_or_none : (item : List ℕ) (front later : List (List ℕ)) → item ∷ [] ≡ front ++ later → (front ≡ []) ⊎ (front ≡ item ∷ [])
one_or_none item [] later e = inl refl
one_or_none item (other ∷ []) later e = inr (ap (λ l. get_or l 0 [] ∷ []) (sym e))
one_or_none item (other ∷ another ∷ front) later e = let long = ap length e in absurd (omega (arith, long))

pub all_or_none : (items found : List (List ℕ)) (item old zeros image rest : List ℕ) → AllByRecursion IsItem items → IsZeros old → IsZeros zeros
    → Mixed old (entry item ++ zeros) image → Reads (log_text items ++ image) found rest → (found ≡ items) ⊎ (found ≡ items ++ item ∷ [])
all_or_none items found item old zeros image rest a o z m r =
    let c = crash_leaves_front items (item ∷ []) found old zeros image rest a o z
    (subst (λ l. Mixed old (l ++ zeros) image) (sym (append-nil (entry item))) m) r in
    elim (one_or_none item c.0 c.1.0 c.1.1.1) [
      | inl none ↦ inl (c.1.1.0 ∙ (ap (λ l. items ++ l) none ∙ append-nil items))
      | inr all ↦ inr (c.1.1.0 ∙ ap (λ l. items ++ l) all)
    ]

-- while zeros are written over what stands behind the whole entries, no entry comes to be
pub mend_keeps_items : (bytes : List ℕ) (items : List (List ℕ)) (rest zeros image : List ℕ) → Reads bytes items rest → IsZeros zeros → Mixed rest zeros image
    → Reads (log_text items ++ image) items image
mend_keeps_items bytes items rest zeros image r z m = record {
  whole = refl;
  each = r.each;
  ends = λ item more fits e.
      let b = front_is_new (entry item) more zeros rest image z (mixed_turned rest zeros image m) e (entry_has_no_zero item) in
      r.ends item b.more fits b.new_is;
}

-- a front without a zero of bytes that have one stands before it
before_zero : (front more bytes behind : List ℕ) → HasNoZero front → front ++ more ≡ bytes ++ 0 ∷ behind
    → (left : List ℕ) × ((bytes ≡ front ++ left) × (more ≡ left ++ 0 ∷ behind))
before_zero [] more bytes behind n e = (bytes, (refl, e))
before_zero (f ∷ front) more [] behind n e = absurd (n.0 (ap (λ l. get_or l 0 0) e))
before_zero (f ∷ front) more (b ∷ bytes) behind n e =
    let here : f ≡ b = ap (λ l. get_or l 0 0) e in
    let left = before_zero front more bytes behind n.1 (ap (drop 1) e) in
    (left.0, ((λ i. sym here i ∷ left.1.0 i), left.1.1))

pub zero_ends : (front behind other : List ℕ) (items : List (List ℕ)) (rest : List ℕ) → Reads (front ++ 0 ∷ behind) items rest
    → (left : List ℕ) × Reads (front ++ 0 ∷ other) items left
zero_ends front behind other items rest r =
    let text = before_zero (log_text items) rest front behind (text_has_no_zero items) (sym r.whole) in (
      text.0 ++ 0 ∷ other,
      record {
        whole = ap (λ l. l ++ 0 ∷ other) text.1.0 ∙ append_assoc (log_text items) text.0 (0 ∷ other);
        each = r.each;
        ends = λ item more fits e.
            let next = before_zero (entry item) more text.0 other (entry_has_no_zero item) (sym e) in
            r.ends item (next.0 ++ 0 ∷ behind) fits
            (text.1.1 ∙ (ap (λ l. l ++ 0 ∷ behind) next.1.0 ∙ append_assoc (entry item) next.0 (0 ∷ behind)));
      },
    )

-- zeros over zeros are zeros
mixed_zeros : (old new image : List ℕ) → IsZeros old → IsZeros new → Mixed old new image → IsZeros image
mixed_zeros [] [] [] o n m = tt
mixed_zeros (a ∷ old) (b ∷ new) (c ∷ image) o n m =
    ((elim m.0 [ inl x ↦ x ∙ o.0 | inr y ↦ y ∙ n.0 ]), mixed_zeros old new image o.1 n.1 m.1)
mixed_zeros [] [] (c ∷ image) o n m = absurd m
mixed_zeros [] (b ∷ new) image o n m = absurd m
mixed_zeros (a ∷ old) [] image o n m = absurd m
mixed_zeros (a ∷ old) (b ∷ new) [] o n m = absurd m

zeros_have_no_end : (front behind : List ℕ) → IsZeros (front ++ 247 ∷ behind) → ⊥
zeros_have_no_end [] behind z = let here = z.0 in omega (arith, here)
zeros_have_no_end (f ∷ front) behind z = zeros_have_no_end front behind z.1

-- behind the one byte that ends the entry there are zeros
zeros_behind_end : (code front behind old zeros image : List ℕ) → AllByRecursion (λ b. b ≢ 247) code → IsZeros old → IsZeros zeros
    → Mixed old (code ++ 247 ∷ zeros) image → image ≡ front ++ 247 ∷ behind → IsZeros behind
zeros_behind_end code front behind [] zeros image n o z m e = absurd (none code image m)
  where
    none : (code image : List ℕ) → Mixed [] (code ++ 247 ∷ zeros) image → ⊥
    none [] [] m = m
    none [] (c ∷ image) m = m
    none (x ∷ code) [] m = m
    none (x ∷ code) (c ∷ image) m = m
zeros_behind_end code [] behind (a ∷ old) zeros [] n o z m e = let long = ap length e in absurd (omega (arith, long))
zeros_behind_end code (f ∷ front) behind (a ∷ old) zeros [] n o z m e = let long = ap length e in absurd (omega (arith, long))
zeros_behind_end [] [] behind (a ∷ old) zeros (c ∷ image) n o z m e = subst IsZeros (ap (drop 1) e) (mixed_zeros old zeros image o.1 z m.1)
zeros_behind_end [] (f ∷ front) behind (a ∷ old) zeros (c ∷ image) n o z m e =
    absurd (zeros_have_no_end front behind (subst IsZeros (ap (drop 1) e) (mixed_zeros old zeros image o.1 z m.1)))
zeros_behind_end (x ∷ code) [] behind (a ∷ old) zeros (c ∷ image) n o z m e =
    let here : c ≡ 247 = ap (λ l. get_or l 0 0) e in
    elim m.0 [ inl is_old ↦ absurd (omega (arith, here, is_old, o.0)) | inr is_new ↦ absurd (n.0 (sym is_new ∙ here)) ]
zeros_behind_end (x ∷ code) (f ∷ front) behind (a ∷ old) zeros (c ∷ image) n o z m e =
    zeros_behind_end code front behind old zeros image n.1 o.1 z m.1 (ap (drop 1) e)

pub torn_end_is_last : (items found : List (List ℕ)) (item old zeros image rest front behind : List ℕ) → AllByRecursion IsItem items → IsZeros old → IsZeros zeros
    → Mixed old (entry item ++ zeros) image → Reads (log_text items ++ image) found rest → rest ≡ front ++ 247 ∷ behind → IsZeros behind
torn_end_is_last items found item old zeros image rest front behind a o z m r e =
    let b = behind_items items found image rest a r in
    zeros_behind_end (coded item) (log_text b.0 ++ front) behind old zeros image (coded_has_none 247 (inr refl) item) o z
    (subst (λ l. Mixed old l image) (append_assoc (coded item) (247 ∷ []) zeros) m)
    (b.1.1.whole ∙ (ap (λ l. log_text b.0 ++ l) e ∙ sym (append_assoc (log_text b.0) front (247 ∷ behind))))

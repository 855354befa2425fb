-- Slots by rising numbers.
use Rattle.std.proofs.Common.{◌≡◌, ◌≢◌, ℕ, zero, suc, ◌<◌, ◌≤◌, Bool, true, false, ltb, eqb, cond, List, [], ◌∷◌, ◌++◌, length, get_or, Option, Some, None}
use Rattle.std.proofs.Common.{◌⊎◌, inl, inr, set, ◌&&◌, refl, sym, ap, ◌∙◌, le_refl, not-suc-le-zero, arith}
use Rattle.std.specs.List.{list_all, remove}
use Rattle.std.specs.List.Sorted.{IsNonDecreasingBy}
use Rattle.std.specs.Option.{option_and_then}
use Rattle.std.specs.Prelude.{slice_get}
use Rattle.std.proofs.lemmas.Bool.{cases_Bool, both_ways, and_parts, and_from, lt-ltb, ltb-true, ltb-false, eq-eqb, eqb-true, ne_eqb}
use Rattle.std.proofs.lemmas.Option.{none-some, slice_get-get_or}
use Rattle.tardis_base.specs.declared.ids.Slot.{Slot}
use Rattle.state_dag.specs.declared.id_slots.NumberedSlot.{NumberedSlot}
use Rattle.state_dag.specs.IdSlots.{slot_of_number, NumbersRise}

-- all of these are above the number
abbrev above : ℕ → List NumberedSlot → Bool
above n es = list_all (λ e. ltb n e.sequence) es

-- no number among those above it
none-above : (n m : ℕ) (es : List NumberedSlot) → m ≤ n → above n es ≡ true → slot_of_number es m ≡ None
none-above n m [] le up = refl
none-above n m (e ∷ es) le up =
    let parts = and_parts (ltb n e.sequence) (above n es) up in
    let less = ltb-true n e.sequence parts.0 in
    let other : eqb e.sequence m ≡ false = ne_eqb e.sequence m (λ q. omega arith) in
    rw other (none-above n m es le parts.1)

-- each of those above it is above it
one-above : (n : ℕ) (es : List NumberedSlot) (k : ℕ) (d : NumberedSlot) → above n es ≡ true → k < length es → n < (get_or es k d).sequence
one-above n [] k d up lt = omega arith
one-above n (e ∷ es) zero d up lt = ltb-true n e.sequence (and_parts (ltb n e.sequence) (above n es) up).0
one-above n (e ∷ es) (suc k) d up lt = one-above n es k d (and_parts (ltb n e.sequence) (above n es) up).1 (omega arith)

-- the number isn't among them where those before the place are below it, and the others above
pub number-none : (es : List NumberedSlot) (n i : ℕ) (d : NumberedSlot) → NumbersRise es → ((k : ℕ) → k < i → k < length es → (get_or es k d).sequence < n) →
    (i < length es → n < (get_or es i d).sequence) → slot_of_number es n ≡ None
number-none [] n i d rise before from = refl
number-none (e ∷ es) n zero d rise before from =
    let less : n < e.sequence = from (omega arith) in
    let other : eqb e.sequence n ≡ false = ne_eqb e.sequence n (λ q. omega arith) in
    rw other (none-above e.sequence n es (omega arith) rise.0)
number-none (e ∷ es) n (suc i) d rise before from =
    let less : e.sequence < n = before 0 (omega arith) (omega arith) in
    let other : eqb e.sequence n ≡ false = ne_eqb e.sequence n (λ q. omega arith) in
    rw other (number-none es n i d rise.1 (λ k lt in_es. before (suc k) (omega arith) (omega arith)) (λ lt. from (omega arith)))

-- the number at a place is found there
pub number-found : (es : List NumberedSlot) (n i : ℕ) (d : NumberedSlot) → NumbersRise es → i < length es → (get_or es i d).sequence ≡ n →
    slot_of_number es n ≡ Some (get_or es i d).slot
number-found [] n i d rise lt is = absurd (not-suc-le-zero lt)
number-found (e ∷ es) n zero d rise lt is = (let same = eq-eqb e.sequence n is in rw same refl)
number-found (e ∷ es) n (suc i) d rise lt is =
    let less = one-above e.sequence es i d rise.0 (omega arith) in
    let other : eqb e.sequence n ≡ false = ne_eqb e.sequence n (λ q. omega arith) in
    rw other (number-found es n i d rise.1 (omega arith) is)

-- what the numbers tell without the one at this place
pub number-removed : (es : List NumberedSlot) (n i m : ℕ) (d : NumberedSlot) → NumbersRise es → i < length es → (get_or es i d).sequence ≡ n →
    slot_of_number (remove es i) m ≡ cond (eqb m n) None (slot_of_number es m)
number-removed [] n i m d rise lt is = absurd (not-suc-le-zero lt)
number-removed (e ∷ es) n zero m d rise lt is = elim (cases_Bool (eqb m n)) [
  | inl t ↦
      let same = eqb-true m n t in
      rw t (none-above e.sequence m es (omega arith) rise.0)
  | inr f ↦
      let other : eqb e.sequence m ≡ false = ne_eqb e.sequence m (λ q. both_ways (eqb m n) f (eq-eqb m n (omega arith))) in
      rw f (rw other refl)
]
number-removed (e ∷ es) n (suc i) m d rise lt is = elim (cases_Bool (eqb e.sequence m)) [
  | inl t ↦
      let same = eqb-true e.sequence m t in
      let less = one-above e.sequence es i d rise.0 (omega arith) in
      let other : eqb m n ≡ false = ne_eqb m n (λ q. omega arith) in
      rw other (rw t refl)
  | inr f ↦ rw f (number-removed es n i m d rise.1 (omega arith) is)
]

above-removed : (n : ℕ) (es : List NumberedSlot) (i : ℕ) → above n es ≡ true → above n (remove es i) ≡ true
above-removed n [] zero up = refl
above-removed n [] (suc i) up = refl
above-removed n (e ∷ es) zero up = (and_parts (ltb n e.sequence) (above n es) up).1
above-removed n (e ∷ es) (suc i) up =
    let parts = and_parts (ltb n e.sequence) (above n es) up in
    and_from (ltb n e.sequence) (above n (remove es i)) parts.0 (above-removed n es i parts.1)

-- they still rise
pub removed-rise : (es : List NumberedSlot) (i : ℕ) → NumbersRise es → NumbersRise (remove es i)
removed-rise [] zero rise = tt
removed-rise [] (suc i) rise = tt
removed-rise (e ∷ es) zero rise = rise.1
removed-rise (e ∷ es) (suc i) rise = (above-removed e.sequence es i rise.0, removed-rise es i rise.1)

-- what the numbers tell with one more behind them
pub number-added : (es : List NumberedSlot) (f : NumberedSlot) (m : ℕ) → slot_of_number es f.sequence ≡ None →
    slot_of_number (es ++ f ∷ []) m ≡ cond (eqb m f.sequence) (Some f.slot) (slot_of_number es m)
number-added [] f m none = elim (cases_Bool (eqb m f.sequence)) [
  | inl t ↦
      let same : eqb f.sequence m ≡ true = eq-eqb f.sequence m (sym (eqb-true m f.sequence t)) in
      rw t (rw same refl)
  | inr u ↦
      let other : eqb f.sequence m ≡ false = ne_eqb f.sequence m (λ q. both_ways (eqb m f.sequence) u (eq-eqb m f.sequence (sym q))) in
      rw u (rw other refl)
]
number-added (e ∷ es) f m none = elim (cases_Bool (eqb e.sequence f.sequence)) [
  | inl t ↦ absurd (none-some e.slot (sym (rw t at none)))
  | inr u ↦ elim (cases_Bool (eqb e.sequence m)) [
    | inl t ↦
        let other : eqb m f.sequence ≡ false = ne_eqb m f.sequence
        (λ q. both_ways (eqb e.sequence f.sequence) u (eq-eqb e.sequence f.sequence (eqb-true e.sequence m t ∙ q))) in
        rw other (rw t refl)
    | inr v ↦ rw v (number-added es f m (rw u at none))
  ]
]

-- one more that is above the number
added-above : (n : ℕ) (es : List NumberedSlot) (f : NumberedSlot) → above n es ≡ true → n < f.sequence → above n (es ++ f ∷ []) ≡ true
added-above n [] f up less = and_from (ltb n f.sequence) true (lt-ltb n f.sequence less) refl
added-above n (e ∷ es) f up less =
    let parts = and_parts (ltb n e.sequence) (above n es) up in
    and_from (ltb n e.sequence) (above n (es ++ f ∷ [])) parts.0 (added-above n es f parts.1 less)

-- they still rise with a higher one behind them
pub added-rise : (es : List NumberedSlot) (f : NumberedSlot) → NumbersRise es → ((n : ℕ) → f.sequence ≤ n → slot_of_number es n ≡ None) →
    NumbersRise (es ++ f ∷ [])
added-rise [] f rise none = (refl, tt)
added-rise (e ∷ es) f rise none =
    let less : e.sequence < f.sequence = below (cases_Bool (ltb e.sequence f.sequence)) in (
      added-above e.sequence es f rise.0 less,
      added-rise es f rise.1 (λ n le. let other : eqb e.sequence n ≡ false = ne_eqb e.sequence n (λ q. omega arith) in let told = none n le in
          rw other at told),
    )
  where
    here : slot_of_number (e ∷ es) e.sequence ≡ Some e.slot
    here = (let same = eq-eqb e.sequence e.sequence refl in rw same refl)

    below : (ltb e.sequence f.sequence ≡ true) ⊎ (ltb e.sequence f.sequence ≡ false) → e.sequence < f.sequence
    below (inl t) = ltb-true e.sequence f.sequence t
    below (inr u) = absurd (none-some e.slot (sym (none e.sequence (ltb-false e.sequence f.sequence u)) ∙ here))

-- numbers that rise don't fall
pub rise-sorted : (es : List NumberedSlot) → NumbersRise es → IsNonDecreasingBy (λ (e : NumberedSlot). e.sequence) es
rise-sorted [] rise i j d le lt = absurd (not-suc-le-zero lt)
rise-sorted (e ∷ es) rise zero zero d le lt = le_refl e.sequence
rise-sorted (e ∷ es) rise zero (suc j) d le lt = (let less = one-above e.sequence es j d rise.0 (omega arith) in omega arith)
rise-sorted (e ∷ es) rise (suc i) zero d le lt = absurd (not-suc-le-zero le)
rise-sorted (e ∷ es) rise (suc i) (suc j) d le lt = rise-sorted es rise.1 i j d (omega arith) (omega arith)

-- ===== All sites

abbrev numbered : List (List NumberedSlot) → ℕ → ℕ → Option Slot
numbered sites n m = option_and_then (λ entries. slot_of_number entries m) (slice_get sites n)

-- a site without slots
pub site-more : (sites : List (List NumberedSlot)) (n m : ℕ) → numbered (sites ++ [] ∷ []) n m ≡ numbered sites n m
site-more [] zero m = refl
site-more [] (suc n) m = refl
site-more (es ∷ sites) zero m = refl
site-more (es ∷ sites) (suc n) m = site-more sites n m

-- one site's slots have changed
site-set_same : (sites : List (List NumberedSlot)) (i : ℕ) (es : List NumberedSlot) (m : ℕ) → i < length sites → numbered (set sites i es) i m
    ≡ slot_of_number es m
site-set_same [] i es m lt = absurd (not-suc-le-zero lt)
site-set_same (fs ∷ sites) zero es m lt = refl
site-set_same (fs ∷ sites) (suc i) es m lt = site-set_same sites i es m (omega arith)

site-set_other : (sites : List (List NumberedSlot)) (i : ℕ) (es : List NumberedSlot) (n m : ℕ) → n ≢ i → numbered (set sites i es) n m ≡ numbered sites n m
site-set_other [] i es n m ne = refl
site-set_other (fs ∷ sites) zero es zero m ne = absurd (ne refl)
site-set_other (fs ∷ sites) zero es (suc n) m ne = refl
site-set_other (fs ∷ sites) (suc i) es zero m ne = refl
site-set_other (fs ∷ sites) (suc i) es (suc n) m ne = site-set_other sites i es n m (λ q. ne (omega arith))

-- the slots of one site
pub site-at : (sites : List (List NumberedSlot)) (i m : ℕ) (d : List NumberedSlot) → i < length sites → numbered sites i m ≡ slot_of_number (get_or sites i d) m
site-at sites i m d lt = (let found = slice_get-get_or sites i d lt in rw found refl)

-- one site's slots as they tell a state that has come or gone
pub site-changed : (sites : List (List NumberedSlot)) (i k : ℕ) (slot : Option Slot) (d es : List NumberedSlot) → i < length sites →
    ((m : ℕ) → slot_of_number es m ≡ cond (eqb m k) slot (slot_of_number (get_or sites i d) m)) →
    (n m : ℕ) → numbered (set sites i es) n m ≡ cond (eqb n i && eqb m k) slot (numbered sites n m)
site-changed sites i k slot d es lt tells n m = go (cases_Bool (eqb n i))
  where
    go : (eqb n i ≡ true) ⊎ (eqb n i ≡ false) → numbered (set sites i es) n m ≡ cond (eqb n i && eqb m k) slot (numbered sites n m)
    go (inl t) =
        let same = eqb-true n i t in
        rw t
        (ap (λ z. numbered (set sites i es) z m) same
        ∙ site-set_same sites i es m lt
        ∙ tells m
        ∙ ap (cond (eqb m k) slot) (sym (site-at sites i m d lt) ∙ ap (λ z. numbered sites z m) (sym same)))
    go (inr f) = rw f (site-set_other sites i es n m (λ q. both_ways (eqb n i) f (eq-eqb n i q)))

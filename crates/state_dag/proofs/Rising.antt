-- Slots with rising numbers.
use Rattle.std.proofs.Common.{◌≡◌, ℕ, ◌<◌, ◌≤◌, Bool, true, false, not, ◌&&◌, eqb, ltb, List, [], ◌∷◌, length, filter, get_or, remove, inl, inr, refl, sym}
use Rattle.std.proofs.Common.{ap, ap₂, ◌∙◌, eq-eqb, eqb-true, arith}
use Rattle.std.specs.List.{list_all}
use Rattle.std.specs.List.Sorted.{IsNonDecreasingBy}
use Rattle.std.proofs.lemmas.Bool.{and_parts, and_from, cases_Bool, cases_lt, both_ways, ltb-true, ne_eqb}
use Rattle.state_dag.specs.Grown.{is_slot_among}
use Rattle.tardis_base.specs.declared.ids.Slot.{Slot}
use Rattle.state_dag.specs.Nodes.{Rise}
use Rattle.state_dag.proofs.Passing.{all-at}

module _ (number : Slot → ℕ) where
  -- an earlier one has a lower number
  pub rising-at : (xs : List Slot) (i j : ℕ) (d : Slot) → Rise number xs → i < j → j < length xs → number (get_or xs i d) < number (get_or xs j d)
  rising-at [] i j d up less lt = absurd (omega arith)
  rising-at (x ∷ xs) i ℕ.zero d up less lt = absurd (omega arith)
  rising-at (x ∷ xs) ℕ.zero (ℕ.suc j) d up less lt = ltb-true (number x) (number (get_or xs j d))
      (all-at (λ s. ltb (number x) (number s)) xs j d up.0 (omega arith))
  rising-at (x ∷ xs) (ℕ.suc i) (ℕ.suc j) d up less lt = rising-at xs i j d up.1 (omega arith) (omega arith)

  pub rising-falls_not : (xs : List Slot) → Rise number xs → IsNonDecreasingBy number xs
  rising-falls_not xs up = λ i j d le lt. elim (cases_lt i j) [
    | inl less ↦ (let before = rising-at xs i j d up less lt in omega arith)
    | inr more ↦
        let equal : i ≡ j = omega arith in
        let same = ap (λ (m : ℕ). number (get_or xs m d)) equal in
        omega arith
  ]

  all-filtered : (p q : Slot → Bool) (xs : List Slot) → list_all p xs ≡ true → list_all p (filter q xs) ≡ true
  all-filtered p q [] all = refl
  all-filtered p q (x ∷ xs) all =
      let parts = and_parts (p x) (list_all p xs) all in
      elim (cases_Bool (q x)) [
        | inl t ↦ rw t (and_from (p x) (list_all p (filter q xs)) parts.0 (all-filtered p q xs parts.1))
        | inr f ↦ rw f (all-filtered p q xs parts.1)
      ]

  pub rising-filter : (q : Slot → Bool) (xs : List Slot) → Rise number xs → Rise number (filter q xs)
  rising-filter q [] up = tt
  rising-filter q (x ∷ xs) up = elim (cases_Bool (q x)) [
    | inl t ↦ rw t (all-filtered (λ s. ltb (number x) (number s)) q xs up.0, rising-filter q xs up.1)
    | inr f ↦ rw f (rising-filter q xs up.1)
  ]

  -- none of these is the slot
  without : (g : Slot) (xs : List Slot) → ((k : ℕ) (d : Slot) → k < length xs → g.0 ≡ (get_or xs k d).0 → ⊥) → filter (λ s. not (eqb g.0 s.0)) xs ≡ xs
  without g [] out = refl
  without g (x ∷ xs) out = rw (ne_eqb g.0 x.0 (out 0 x (omega arith))) (ap (λ ys. x ∷ ys) (without g xs (λ k d lt. out (ℕ.suc k) d (omega arith))))

  -- one that is there is taken out
  pub removed-one : (xs : List Slot) (k : ℕ) (g : Slot) → Rise number xs → k < length xs → get_or xs k g ≡ g → remove xs k ≡ filter (λ s. not (eqb g.0 s.0)) xs
  removed-one [] k g up lt is = absurd (omega arith)
  removed-one (x ∷ xs) ℕ.zero g up lt is =
      let here = ap (λ (s : Slot). s.0) (sym is) in
      rw (eq-eqb g.0 x.0 here) (sym (without g xs (λ j d within e.
      let slot : ℕ → Slot = λ n. record { 0 = n } in
      let same : x ≡ get_or xs j d = is ∙ ap slot e in
      let more = ltb-true (number x) (number (get_or xs j d)) (all-at (λ s. ltb (number x) (number s)) xs j d up.0 within) in
      let equal = ap number same in
      omega arith)))
  removed-one (x ∷ xs) (ℕ.suc k) g up lt is =
      let more = ltb-true (number x) (number (get_or xs k g)) (all-at (λ s. ltb (number x) (number s)) xs k g up.0 (omega arith)) in
      let equal = ap number is in
      let other : eqb g.0 x.0 ≡ false = ne_eqb g.0 x.0 (λ e.
      let slot : ℕ → Slot = λ n. record { 0 = n } in
      let same : g ≡ x = ap slot e in
      let numbers = ap number same in
      omega arith) in
      rw other (ap (λ ys. x ∷ ys) (removed-one xs k g up.1 (omega arith) is))

  -- one that isn't where its number would stand isn't there
  pub removed-none : (xs : List Slot) (k : ℕ) (g : Slot) → Rise number xs → ((j : ℕ) (d : Slot) → j < k → number (get_or xs j d) < number g) →
      ((j : ℕ) (d : Slot) → k ≤ j → j < length xs → number g ≤ number (get_or xs j d)) →
      (k < length xs → (get_or xs k g).0 ≡ g.0 → ⊥) → filter (λ s. not (eqb g.0 s.0)) xs ≡ xs
  removed-none xs k g up before from other = without g xs (λ j d lt e.
      let slot : ℕ → Slot = λ n. record { 0 = n } in
      let same : g ≡ get_or xs j d = ap slot e in
      let equal = ap number same in
      elim (cases_lt j k) [
        | inl less ↦ (let lower = before j d less in omega arith)
        | inr le ↦ elim (cases_lt k j) [
          | inl less ↦
              let rises = rising-at xs k j d up less lt in
              let least = from k d (omega arith) (omega arith) in
              omega arith
          | inr more ↦
              let place : j ≡ k = omega arith in
              let here = get_or_same xs j d g lt in
              other (omega arith) (ap (λ (m : ℕ). (get_or xs m g).0) (sym place) ∙ sym (ap (λ (s : Slot). s.0) here) ∙ sym e)
        ]
      ])
    where
      get_or_same : (ys : List Slot) (m : ℕ) (a b : Slot) → m < length ys → get_or ys m a ≡ get_or ys m b
      get_or_same [] m a b lt = absurd (omega arith)
      get_or_same (y ∷ ys) ℕ.zero a b lt = refl
      get_or_same (y ∷ ys) (ℕ.suc m) a b lt = get_or_same ys m a b (omega arith)

-- one that is there has a place
pub among-index : (xs : List Slot) (g : Slot) → is_slot_among g xs ≡ true → (j : ℕ) × (j < length xs) × ((d : Slot) → get_or xs j d ≡ g)
among-index [] g there = absurd (both_ways false refl there)
among-index (x ∷ xs) g there = elim (cases_Bool (eqb x.0 g.0)) [
  | inl t ↦ (0, omega arith, λ d. (let named : ℕ → Slot = λ n. record { 0 = n } in ap named (eqb-true x.0 g.0 t)))
  | inr f ↦ (let w = among-index xs g (rw f at there) in (ℕ.suc w.0, omega arith, λ d. w.2 d))
]

-- it is the first whose number is no lower
pub rising-place : (number : Slot → ℕ) (xs : List Slot) (g : Slot) (p : ℕ) → Rise number xs → is_slot_among g xs ≡ true →
    ((j : ℕ) (d : Slot) → j < p → number (get_or xs j d) < number g) →
    ((j : ℕ) (d : Slot) → p ≤ j → j < length xs → number g ≤ number (get_or xs j d)) → (p < length xs) × ((d : Slot) → get_or xs p d ≡ g)
rising-place number xs g p up there before from =
    let w = among-index xs g there in
    let same = ap number (w.2 g) in
    let place : p ≡ w.0 = elim (cases_lt w.0 p) [
      | inl less ↦ absurd (let lower = before w.0 g less in omega arith)
      | inr le ↦ elim (cases_lt p w.0) [
        | inl less ↦
            absurd (let rises = rising-at number xs p w.0 g up less w.1 in
            let inside = w.1 in
            let least = from p g (omega arith) (omega arith) in
            omega arith)
        | inr more ↦ omega arith
      ]
    ] in
    (let inside = w.1 in omega arith, λ d. ap (λ (m : ℕ). get_or xs m d) place ∙ w.2 d)

-- one test after another
pub filter-both : (p q r : Slot → Bool) (xs : List Slot) → ((x : Slot) → r x ≡ (p x && q x)) → filter q (filter p xs) ≡ filter r xs
filter-both p q r [] is = refl
filter-both p q r (x ∷ xs) is = elim (cases_Bool (p x)) [
  | inl t ↦ elim (cases_Bool (q x)) [
    | inl u ↦ rw (t, is x ∙ ap₂ (λ a b. a && b) t u) (rw u (ap (λ ys. x ∷ ys) (filter-both p q r xs is)))
    | inr f ↦ rw (t, is x ∙ ap₂ (λ a b. a && b) t f) (rw f (filter-both p q r xs is))
  ]
  | inr f ↦ rw (f, is x ∙ ap (λ a. a && q x) f) (filter-both p q r xs is)
]

-- Chunks in a row, before those of other slots.
use Rattle.std.proofs.Common.{◌≡◌, ℕ, ◌+◌, ◌≤◌, ◌<◌, true, false, cond, ◌&&◌, List, [], ◌∷◌, ◌++◌, length, slice_get, slice_set, nat_lt, nat_le, Option, Some, None, is_some}
use Rattle.std.proofs.Common.{refl, sym, ap, subst, ◌∙◌, inl, inr, arith}
use Rattle.std.specs.Map.{lookup, set_value}
use Rattle.std.specs.Option.{option_map_or}
use Rattle.std.proofs.lemmas.Bool.{cases_Bool, both_ways, false_from_ne_true, eqb-true, eq-eqb, lt-ltb, leb-false}
use Rattle.tardis_base.specs.declared.ids.Slot.{Slot}
use Rattle.version_list.specs.Notes.{Chunks, same_slot, chunks_in, are_full, are_all_full, in_a_row, is_in_row, chunks_for, is_noted_in}
use Rattle.version_list.proofs.Chunks.{found-set, other-set, same-self, count-set, full-found}
use Rattle.version_list.proofs.Noted.{slots-from_same}

abbrev slot-of : ℕ → Slot
slot-of n = record { 0 = n }

-- the first slot of a row, or another one
here : (slot : Slot) (n : ℕ) → slot.0 ≡ n → same_slot slot (slot-of n) ≡ true
here slot n e = eq-eqb slot.0 n e

away : (slot : Slot) (n : ℕ) → (slot.0 ≡ n → ⊥) → same_slot slot (slot-of n) ≡ false
away slot n differ = false_from_ne_true (same_slot slot (slot-of n)) (λ t. differ (eqb-true slot.0 n t))

turned : (a b : Slot) → same_slot a b ≡ same_slot b a
turned a b = elim (cases_Bool (same_slot b a)) [
  | inl t ↦ eq-eqb a.0 b.0 (sym (eqb-true b.0 a.0 t)) ∙ sym t
  | inr f ↦ false_from_ne_true (same_slot a b) (λ t. let u = eq-eqb b.0 a.0 (sym (eqb-true a.0 b.0 t)) in let bad : true ≡ false = sym u ∙ f in let no : ⊥ = cc in no) ∙ sym f
]

module _ (slot : Slot) (w : Chunks) (es : List (Slot × Chunks)) where
  -- one that stands in the row
  pub row-found : (n i : ℕ) (cs : List Chunks) (c : Chunks) → slot.0 ≡ n + i → slice_get cs i ≡ Some c →
      lookup (same_slot slot) (in_a_row n cs ++ es) ≡ Some c
  row-found n i [] c at e = absurd (let bad : ⊥ = cc in bad)
  row-found n ℕ.zero (x ∷ cs) c at e = let t = here slot n (omega arith) in rw t e
  row-found n (ℕ.suc i) (x ∷ cs) c at e =
      let f = away slot n (λ same. omega arith) in
      rw f (row-found (n + 1) i cs c (omega arith) e)

  pub row-set : (n i : ℕ) (cs : List Chunks) → slot.0 ≡ n + i → i < length cs →
      in_a_row n (slice_set cs i w) ++ es ≡ set_value (same_slot slot) (in_a_row n cs ++ es) w
  row-set n i [] at within = absurd (omega arith)
  row-set n ℕ.zero (x ∷ cs) at within = let t = here slot n (omega arith) in rw t refl
  row-set n (ℕ.suc i) (x ∷ cs) at within =
      let f = away slot n (λ same. omega arith) in
      rw f (ap (λ xs. (slot-of n, x) ∷ xs) (row-set (n + 1) i cs (omega arith) (omega arith)))

-- one that doesn't
module _ (slot : Slot) where
  pub passed-found : (n : ℕ) (cs : List Chunks) (es : List (Slot × Chunks)) → (n ≤ slot.0 → n + length cs ≤ slot.0) →
      lookup (same_slot slot) (in_a_row n cs ++ es) ≡ lookup (same_slot slot) es
  passed-found n [] es out = refl
  passed-found n (x ∷ cs) es out =
      let f = away slot n (λ same. let far = out (omega (arith, same)) in omega (arith, same, far)) in
      rw f (passed-found (n + 1) cs es (λ le. let far = out (omega (arith, le)) in omega (arith, far)))

  pub passed-set : (w : Chunks) (n : ℕ) (cs : List Chunks) (es : List (Slot × Chunks)) → (n ≤ slot.0 → n + length cs ≤ slot.0) →
      in_a_row n cs ++ set_value (same_slot slot) es w ≡ set_value (same_slot slot) (in_a_row n cs ++ es) w
  passed-set w n [] es out = refl
  passed-set w n (x ∷ cs) es out =
      let f = away slot n (λ same. let far = out (omega (arith, same)) in omega (arith, same, far)) in
      rw f (ap (λ xs. (slot-of n, x) ∷ xs) (passed-set w (n + 1) cs es (λ le. let far = out (omega (arith, le)) in omega (arith, far))))

  -- what is found behind the row is found in all
  pub passed-more : (w : Chunks) (q : Slot) (n : ℕ) (cs : List Chunks) (es fs : List (Slot × Chunks)) → (n ≤ slot.0 → n + length cs ≤ slot.0) →
      lookup (same_slot q) fs ≡ cond (same_slot slot q) (Some w) (lookup (same_slot q) es) →
      lookup (same_slot q) (in_a_row n cs ++ fs) ≡ cond (same_slot slot q) (Some w) (lookup (same_slot q) (in_a_row n cs ++ es))
  passed-more w q n [] es fs out e = e
  passed-more w q n (x ∷ cs) es fs out e = elim (cases_Bool (same_slot q (slot-of n))) [
    | inl t ↦
        let is : q.0 ≡ n = eqb-true q.0 n t in
        let f : same_slot slot q ≡ false = false_from_ne_true (same_slot slot q) (λ u.
        let same = eqb-true slot.0 q.0 u in let far = out (omega (arith, is, same)) in omega (arith, is, same, far)) in
        rw (t, f) refl
    | inr f ↦ rw f (passed-more w q (n + 1) cs es fs (λ le. let far = out (omega (arith, le)) in omega (arith, far)) e)
  ]

-- one more behind the row
pub row-pushed : (n : ℕ) (cs : List Chunks) (slot : Slot) (w : Chunks) (es : List (Slot × Chunks)) → slot.0 ≡ n + length cs →
    in_a_row n (cs ++ w ∷ []) ++ es ≡ in_a_row n cs ++ (slot, w) ∷ es
row-pushed n [] slot w es at =
    let is : slot-of n ≡ slot = ap slot-of (let same : n ≡ slot.0 = omega arith in same) in
    ap (λ s. (s, w) ∷ es) is
row-pushed n (x ∷ cs) slot w es at = ap (λ xs. (slot-of n, x) ∷ xs) (row-pushed (n + 1) cs slot w es (omega arith))

-- the new one is found first
pub first-found : (slot : Slot) (w : Chunks) (q : Slot) (es : List (Slot × Chunks)) →
    lookup (same_slot q) ((slot, w) ∷ es) ≡ cond (same_slot slot q) (Some w) (lookup (same_slot q) es)
first-found slot w q es = ap (λ b. cond b (Some w) (lookup (same_slot q) es)) (turned q slot)

-- where nothing was put nothing is replaced
pub unset : (slot : Slot) (w : Chunks) (es : List (Slot × Chunks)) → lookup (same_slot slot) es ≡ None → set_value (same_slot slot) es w ≡ es
unset slot w [] none = refl
unset slot w (e ∷ es) none = elim (cases_Bool (same_slot slot e.0)) [
  | inl t ↦ absurd (let bad : Some e.1 ≡ None = rw t at none in let no : ⊥ = cc in no)
  | inr f ↦ rw f (ap (λ xs. e ∷ xs) (unset slot w es (rw f at none)))
]

-- ===== How many, and that none is empty

pub count-both : (xs ys : List (Slot × Chunks)) → chunks_in (xs ++ ys) ≡ chunks_in xs + chunks_in ys
count-both [] ys = omega arith
count-both (x ∷ xs) ys = let rest = count-both xs ys in omega (arith, rest)

pub full-all : (xs ys : List (Slot × Chunks)) → are_all_full (xs ++ ys) ≡ (are_all_full xs && are_all_full ys)
full-all [] ys = refl
full-all (x ∷ xs) ys = elim (cases_Bool (are_full x.1)) [
  | inl t ↦ rw t (full-all xs ys)
  | inr f ↦ rw f refl
]

-- ===== What is put in the place of other chunks

pub found-in_set : (slot : Slot) (w : Chunks) (q : Slot) (es : List (Slot × Chunks)) (old : Chunks) → lookup (same_slot slot) es ≡ Some old →
    lookup (same_slot q) (set_value (same_slot slot) es w) ≡ cond (same_slot slot q) (Some w) (lookup (same_slot q) es)
found-in_set slot w q es old e = elim (cases_Bool (same_slot slot q)) [
  | inl t ↦ rw t (subst (λ s. lookup (same_slot s) (set_value (same_slot slot) es w) ≡ Some w) (slots-from_same slot q t) (found-set slot w es old e))
  | inr f ↦ rw f (other-set slot w q es (λ same. both_ways (same_slot slot q) f (subst (λ s. same_slot slot s ≡ true) (sym same) (same-self slot))))
]

-- what doesn't stand in the row comes behind it, or before
pub out-of_row : (slot : Slot) (row : List Chunks) → is_in_row slot row ≡ false → 1 ≤ slot.0 → 1 + length row ≤ slot.0
out-of_row slot row out le =
    let t : nat_lt 0 slot.0 ≡ true = lt-ltb 0 slot.0 (omega (arith, le)) in
    let f : nat_le slot.0 (length row) ≡ false = rw t at out in
    let less = leb-false slot.0 (length row) f in
    omega (arith, less)

-- ===== What is taken out

module _ (slot : Slot) (es : List (Slot × Chunks)) where
  pub count-out : chunks_in (set_value (same_slot slot) es []) + length (chunks_for slot es) ≡ chunks_in es
  count-out = go (lookup (same_slot slot) es) refl
    where
      go : (o : Option Chunks) → lookup (same_slot slot) es ≡ o →
          chunks_in (set_value (same_slot slot) es []) + length (option_map_or (λ (cs : Chunks). cs) o []) ≡ chunks_in es
      go None none = let same = ap chunks_in (unset slot [] es none) in omega (arith, same)
      go (Some old) e = let one = count-set slot [] es old e in omega (arith, one)

  pub full-out : are_all_full es ≡ true → are_full (chunks_for slot es) ≡ true
  full-out all = go (lookup (same_slot slot) es) refl
    where
      go : (o : Option Chunks) → lookup (same_slot slot) es ≡ o → are_full (option_map_or (λ (cs : Chunks). cs) o []) ≡ true
      go None none = refl
      go (Some old) e = full-found slot es old e all

  pub none-left : chunks_for slot (set_value (same_slot slot) es []) ≡ []
  none-left = go (lookup (same_slot slot) es) refl
    where
      go : (o : Option Chunks) → lookup (same_slot slot) es ≡ o → chunks_for slot (set_value (same_slot slot) es []) ≡ []
      go None none = ap (chunks_for slot) (unset slot [] es none) ∙ ap (λ o. option_map_or (λ (cs : Chunks). cs) o []) none
      go (Some old) e = ap (λ o. option_map_or (λ (cs : Chunks). cs) o []) (found-set slot [] es old e)

  -- something was put there, and no chunks are left
  pub noted-left : is_noted_in slot es ≡ true → chunks_for slot es ≡ [] → lookup (same_slot slot) es ≡ Some []
  noted-left = go (lookup (same_slot slot) es)
    where
      go : (o : Option Chunks) → is_some o ≡ true → option_map_or (λ (cs : Chunks). cs) o [] ≡ [] → o ≡ Some []
      go None noted left = absurd (both_ways false refl noted)
      go (Some cs) noted left = ap Some left

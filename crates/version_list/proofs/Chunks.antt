-- Chunks of keys by slot.
use Rattle.std.proofs.Common.{◌≡◌, ℕ, ◌+◌, ◌≤◌, ◌<◌, ◌==◌, Bool, true, false, cond, ◌||◌, not, List, [], ◌∷◌, ◌++◌, length, take, drop, Option, Some, is_some}
use Rattle.std.proofs.Common.{refl, sym, ap, subst, ◌∙◌, inl, inr, arith}
use Rattle.std.specs.List.{list_any}
use Rattle.std.specs.Map.{lookup, set_value}
use Rattle.std.proofs.lemmas.Bool.{cases_Bool, false_from_ne_true, both_ways, eqb-true, eq-eqb, or_parts, and_parts, and_from}
use Rattle.indexmap.specs.IndexMap.{insert_entry}
use Rattle.tardis_base.specs.declared.ids.Slot.{Slot}
use Rattle.tardis_base.specs.Keys.{is_key_among}
use Rattle.version_list.specs.Notes.{Chunks, same_slot, is_key_in, is_noted_in, chunks_in, are_full, are_all_full, chunks_of}

same-from : (a b : Slot) → same_slot a b ≡ true → a ≡ b
same-from a b e = ap (λ n. let s : Slot = record { 0 = n } in s) (eqb-true a.0 b.0 e)

pub same-self : (a : Slot) → same_slot a a ≡ true
same-self a = eq-eqb a.0 a.0 refl

pub apart : (a b : Slot) → (a ≡ b → ⊥) → same_slot a b ≡ false
apart a b differ = false_from_ne_true (same_slot a b) (λ t. differ (same-from a b t))

module _ (slot : Slot) (w : Chunks) where
  pub found-set : (es : List (Slot × Chunks)) (old : Chunks) → lookup (same_slot slot) es ≡ Some old →
      lookup (same_slot slot) (set_value (same_slot slot) es w) ≡ Some w
  found-set [] old e = absurd (let bad : ⊥ = cc in bad)
  found-set (f ∷ es) old e = elim (cases_Bool (same_slot slot f.0)) [
    | inl t ↦ rw t (rw t refl)
    | inr n ↦ rw n (rw n (found-set es old (rw n at e)))
  ]

  pub other-set : (q : Slot) (es : List (Slot × Chunks)) → (q ≡ slot → ⊥) → lookup (same_slot q) (set_value (same_slot slot) es w) ≡ lookup (same_slot q) es
  other-set q [] differ = refl
  other-set q (f ∷ es) differ = elim (cases_Bool (same_slot slot f.0)) [
    | inl t ↦
        let other : same_slot q f.0 ≡ false = subst (λ s. same_slot q s ≡ false) (same-from slot f.0 t) (apart q slot differ) in
        rw t (rw other refl)
    | inr n ↦ rw n (ap (λ o. cond (same_slot q f.0) (Some f.1) o) (other-set q es differ))
  ]

  pub noted-set : (q : Slot) (es : List (Slot × Chunks)) → is_noted_in q (set_value (same_slot slot) es w) ≡ is_noted_in q es
  noted-set q [] = refl
  noted-set q (f ∷ es) = elim (cases_Bool (same_slot slot f.0)) [
    | inl t ↦ rw t (either (same_slot q f.0) (lookup (same_slot q) es))
    | inr n ↦ rw n (rest (same_slot q f.0) (lookup (same_slot q) (set_value (same_slot slot) es w)) (lookup (same_slot q) es) (noted-set q es))
  ]
    where
      either : (b : Bool) (o : Option Chunks) → is_some (cond b (Some w) o) ≡ is_some (cond b (Some f.1) o)
      either true o = refl
      either false o = refl

      rest : (b : Bool) (o p : Option Chunks) → is_some o ≡ is_some p → is_some (cond b (Some f.1) o) ≡ is_some (cond b (Some f.1) p)
      rest true o p e = refl
      rest false o p e = e

  pub count-set : (es : List (Slot × Chunks)) (old : Chunks) → lookup (same_slot slot) es ≡ Some old →
      chunks_in (set_value (same_slot slot) es w) + length old ≡ chunks_in es + length w
  count-set [] old e = absurd (let bad : ⊥ = cc in bad)
  count-set (f ∷ es) old e = elim (cases_Bool (same_slot slot f.0)) [
    | inl t ↦
        let here : Some f.1 ≡ Some old = rw t at e in
        let same : length f.1 ≡ length old = cc in
        rw t (omega (arith, same))
    | inr n ↦
        let rest = count-set es old (rw n at e) in
        rw n (omega (arith, rest))
  ]

-- a new entry, or one that takes the place of another, adds no more than its own
pub count-inserted : (eq : Slot → Slot → Bool) (es : List (Slot × Chunks)) (slot : Slot) (w : Chunks) → chunks_in (insert_entry eq es slot w)
    ≤ chunks_in es + length w
count-inserted eq [] slot w = omega arith
count-inserted eq (f ∷ es) slot w = elim (cases_Bool (eq slot f.0)) [
  | inl t ↦ rw t (omega arith)
  | inr n ↦ let rest = count-inserted eq es slot w in rw n (omega (arith, rest))
]

-- ===== Keys in chunks

pub in-both : (k : List ℕ) (xs ys : Chunks) → is_key_in k (xs ++ ys) ≡ (is_key_in k xs || is_key_in k ys)
in-both k [] ys = refl
in-both k (x ∷ xs) ys = elim (cases_Bool (is_key_among k x)) [
  | inl t ↦ rw t refl
  | inr f ↦ rw f (in-both k xs ys)
]

-- where no chunk has keys, none is there
pub no-keys : (k : List ℕ) (xs : Chunks) → list_any (λ c. not (length c == 0)) xs ≡ false → is_key_in k xs ≡ false
no-keys k [] none = refl
no-keys k ([] ∷ xs) none = no-keys k xs none
no-keys k ((y ∷ ys) ∷ xs) none =
    let n = length (y ∷ ys) in
    let first = (or_parts (not (n == 0)) (list_any (λ (c : List (List ℕ)). not (length c == 0)) xs) none).0 in
    elim (cases_Bool (n == 0)) [
      | inl t ↦ let e = eqb-true n 0 t in absurd (omega (arith, e))
      | inr f ↦ absurd (both_ways (not (n == 0)) first (ap not f))
    ]

pub or-none : (a : Bool) → (a || false) ≡ a
or-none true = refl
or-none false = refl

-- a key is in the first of the chunks or in the others
pub in-first : (k : List ℕ) (xs : Chunks) → is_key_in k xs ≡ (is_key_in k (take 1 xs) || is_key_in k (drop 1 xs))
in-first k [] = refl
in-first k (x ∷ xs) = ap (λ b. b || is_key_in k xs) (sym (or-none (is_key_among k x)))

-- of several there is one fewer behind the first
pub one-fewer : {X : Type 0} (xs : List X) → 0 < length xs → length (drop 1 xs) + 1 ≡ length xs
one-fewer [] some = absurd (omega arith)
one-fewer (x ∷ xs) some = omega arith

-- ===== No chunk without keys

-- the keys of one chunk, or of none
pub in-one : (k : List ℕ) (ks : List (List ℕ)) → is_key_in k (chunks_of ks) ≡ is_key_among k ks
in-one k [] = refl
in-one k (x ∷ ks) = or-none (is_key_among k (x ∷ ks))

pub full-of : (ks : List (List ℕ)) → are_full (chunks_of ks) ≡ true
full-of [] = refl
full-of (k ∷ ks) =
    let n = length (k ∷ ks) in
    and_from (not (n == 0)) true (ap not (false_from_ne_true (n == 0) (λ t. let e = eqb-true n 0 t in omega (arith, e)))) refl

pub full-both : (xs ys : Chunks) → are_full xs ≡ true → are_full ys ≡ true → are_full (xs ++ ys) ≡ true
full-both [] ys all also = also
full-both (x ∷ xs) ys all also =
    let parts = and_parts (not (length x == 0)) (are_full xs) all in
    and_from (not (length x == 0)) (are_full (xs ++ ys)) parts.0 (full-both xs ys parts.1 also)

-- where one of at most one chunk has a key, each has
pub full-one : (xs : Chunks) → length xs ≤ 1 → list_any (λ c. not (length c == 0)) xs ≡ true → are_full xs ≡ true
full-one [] few some = refl
full-one (x ∷ []) few some = and_from (not (length x == 0)) true (sym (or-none (not (length x == 0))) ∙ some) refl
full-one (x ∷ y ∷ xs) few some = absurd (omega arith)

pub full-found : (slot : Slot) (es : List (Slot × Chunks)) (old : Chunks) → lookup (same_slot slot) es ≡ Some old → are_all_full es ≡ true → are_full old ≡ true
full-found slot [] old e all = absurd (let bad : ⊥ = cc in bad)
full-found slot (f ∷ es) old e all =
    let parts = and_parts (are_full f.1) (are_all_full es) all in
    elim (cases_Bool (same_slot slot f.0)) [
      | inl t ↦
          let here : Some f.1 ≡ Some old = rw t at e in
          let same : f.1 ≡ old = cc in
          subst (λ cs. are_full cs ≡ true) same parts.0
      | inr n ↦ full-found slot es old (rw n at e) parts.1
    ]

pub full-set : (slot : Slot) (w : Chunks) (es : List (Slot × Chunks)) → are_full w ≡ true → are_all_full es ≡ true →
    are_all_full (set_value (same_slot slot) es w) ≡ true
full-set slot w [] own all = refl
full-set slot w (f ∷ es) own all =
    let parts = and_parts (are_full f.1) (are_all_full es) all in
    elim (cases_Bool (same_slot slot f.0)) [
      | inl t ↦ rw t (and_from (are_full w) (are_all_full es) own parts.1)
      | inr n ↦ rw n (and_from (are_full f.1) (are_all_full (set_value (same_slot slot) es w)) parts.0 (full-set slot w es own parts.1))
    ]

pub full-inserted : (eq : Slot → Slot → Bool) (es : List (Slot × Chunks)) (slot : Slot) (w : Chunks) → are_full w ≡ true → are_all_full es ≡ true →
    are_all_full (insert_entry eq es slot w) ≡ true
full-inserted eq [] slot w own all = and_from (are_full w) true own refl
full-inserted eq (f ∷ es) slot w own all =
    let parts = and_parts (are_full f.1) (are_all_full es) all in
    elim (cases_Bool (eq slot f.0)) [
      | inl t ↦ rw t (and_from (are_full w) (are_all_full es) own parts.1)
      | inr n ↦ rw n (and_from (are_full f.1) (are_all_full (insert_entry eq es slot w)) parts.0 (full-inserted eq es slot w own parts.1))
    ]

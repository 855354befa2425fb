-- Keys in another order, each once, and in ascending order.
use Rattle.std.proofs.Common.{◌≡◌, ℕ, ◌+◌, ◌<◌, ◌≤◌, Bool, true, false, ◌||◌, List, [], ◌∷◌, length, map, filter, get_or, IsPermutation, IsSorted, Bor}
use Rattle.std.proofs.Common.{nat_cmp, bytes_eq, inl, inr, refl, sym, ap, ap₂, subst, ◌∙◌, arith}
use Rattle.std.specs.Cmp.Lexicographic.{slice_cmp}
use Rattle.std.specs.List.{IsDistinct, AllByRecursion, sum_by}
use Rattle.std.proofs.lemmas.Bool.{cases_Bool, both_ways, cond-true, cond-false}
use Rattle.std.proofs.lemmas.List.{get_or-map, length-map}
use Rattle.std.proofs.lemmas.List.Recursion.{is_sum_by}
use Rattle.std.proofs.lemmas.List.Sorted.{sum_by-IsPermutation}
use Rattle.std.proofs.lemmas.Slice.Eq.{bytes_eq-Decides}
use Rattle.tardis_base.specs.Keys.{is_key_before, are_ascending_keys, is_key_among}
use Rattle.tardis_base.proofs.KeyOrder.{cases_key, bytes_eq-itself, ascending-from}

abbrev pub Key : Type 0
Key = Bor (List ℕ)

abbrev pub texts : List Key → List (List ℕ)
texts ks = map (λ k. k.now) ks

abbrev pub one : Bool → ℕ
one true = 1
one false = 0

-- how often the key stands among these
abbrev pub count : List ℕ → List (List ℕ) → ℕ
count k [] = 0
count k (l ∷ ls) = one (bytes_eq k l) + count k ls

pub count-permutation : (k : List ℕ) (xs ys : List (List ℕ)) → IsPermutation xs ys → count k ys ≡ count k xs
count-permutation k xs ys moved =
    let summed : (zs : List (List ℕ)) → count k zs ≡ sum_by (λ l. one (bytes_eq k l)) zs = is_sum_by (count k) (λ l. one (bytes_eq k l)) refl (λ _ _. refl) in
    summed ys ∙ (sum_by-IsPermutation (λ l. one (bytes_eq k l)) xs ys moved ∙ sym (summed xs))

-- the key is among these exactly where it is counted
pub among-counted : (k : List ℕ) (ks : List (List ℕ)) → is_key_among k ks ≡ true → 1 ≤ count k ks
among-counted k [] h = absurd (both_ways false refl h)
among-counted k (l ∷ ls) h = go (bytes_eq k l) (λ e. among-counted k ls e) h
  where
    go : (b : Bool) → (is_key_among k ls ≡ true → 1 ≤ count k ls) → (b || is_key_among k ls) ≡ true → 1 ≤ one b + count k ls
    go true rest e = omega arith
    go false rest e = omega (arith, rest e)

pub counted-among : (k : List ℕ) (ks : List (List ℕ)) → 1 ≤ count k ks → is_key_among k ks ≡ true
counted-among k [] h = absurd (omega (arith, h))
counted-among k (l ∷ ls) h = go (bytes_eq k l) (λ e. counted-among k ls e) h
  where
    go : (b : Bool) → (1 ≤ count k ls → is_key_among k ls ≡ true) → 1 ≤ one b + count k ls → (b || is_key_among k ls) ≡ true
    go true rest e = refl
    go false rest e = rest (omega (arith, e))

none-counted : (k : List ℕ) (ks : List (List ℕ)) → AllByRecursion (λ l. bytes_eq k l ≡ false) ks → count k ks ≡ 0
none-counted k [] h = refl
none-counted k (l ∷ ls) h = ap₂ (λ b n. one b + n) h.0 (none-counted k ls h.1)

-- of distinct keys each is counted once
pub counted-once : (k : List ℕ) (ks : List (List ℕ)) → IsDistinct bytes_eq ks → count k ks ≤ 1
unfolding IsDistinct
counted-once k [] h = omega arith
counted-once k (l ∷ ls) h = elim (cases_Bool (bytes_eq k l)) [
  | inl t ↦
      let same : k ≡ l = (bytes_eq-Decides k l).0 t in
      let none : count k ls ≡ 0 = ap (λ j. count j ls) same ∙ none-counted l ls h.0 in
      let here : one (bytes_eq k l) ≡ 1 = ap one t in
      omega (arith, none, here)
  | inr f ↦
      let rest = counted-once k ls h.1 in
      let here : one (bytes_eq k l) ≡ 0 = ap one f in
      omega (arith, rest, here)
]

pub filter-counted : (p : List ℕ → Bool) (k : List ℕ) (ks : List (List ℕ)) → count k (filter p ks) ≤ count k ks
filter-counted p k [] = omega arith
filter-counted p k (l ∷ ls) =
    let rest = filter-counted p k ls in
    elim (cases_Bool (p l)) [
      | inl t ↦ subst (λ zs. count k zs ≤ count k (l ∷ ls)) (sym (cond-true (p l) (l ∷ filter p ls) (filter p ls) t)) (omega (arith, rest))
      | inr f ↦ subst (λ zs. count k zs ≤ count k (l ∷ ls)) (sym (cond-false (p l) (l ∷ filter p ls) (filter p ls) f)) (omega (arith, rest))
    ]

-- keys in order, each once, ascend
ascending-once : (ks : List (List ℕ)) → ((i : ℕ) (d : List ℕ) → ℕ.suc i < length ks → is_key_before (get_or ks (ℕ.suc i) d) (get_or ks i d) ≡ false)
    → ((k : List ℕ) → count k ks ≤ 1) → are_ascending_keys ks ≡ true
ascending-once [] sorted once = refl
ascending-once (k ∷ []) sorted once = refl
ascending-once (k ∷ l ∷ ks) sorted once = elim (cases_key k l) [
  | inl before ↦ ascending-from k (l ∷ ks) before (ascending-once (l ∷ ks) (λ i d h. sorted (ℕ.suc i) d (omega (arith, h))) (λ j. omega (arith, once j)))
  | inr (inl after) ↦ absurd (both_ways (is_key_before l k) (sorted 0 k (omega arith)) after)
  | inr (inr same) ↦
      let first : one (bytes_eq k k) ≡ 1 = ap one (bytes_eq-itself k) in
      let second : one (bytes_eq k l) ≡ 1 = ap one (subst (λ z. bytes_eq k z ≡ true) same (bytes_eq-itself k)) in
      absurd (omega (arith, once k, first, second))
]

pub ascending-sorted : (ks : List Key) → IsSorted (λ a b. slice_cmp nat_cmp a.now b.now) ks → ((k : List ℕ) → count k (texts ks) ≤ 1) →
    are_ascending_keys (texts ks) ≡ true
ascending-sorted ks sorted once = ascending-once (texts ks) (λ i d h. ordered i d h) once
  where
    bor : List ℕ → Key
    bor d = record { ref_ptr = (0, 0); now = d }

    ordered : (i : ℕ) (d : List ℕ) → ℕ.suc i < length (texts ks) → is_key_before (get_or (texts ks) (ℕ.suc i) d) (get_or (texts ks) i d) ≡ false
    ordered i d h =
        let next : ℕ.suc i ≡ i + 1 = omega arith in
        let inside : i + 1 < length ks = omega (arith, h, length-map ks (λ (k : Key). k.now)) in
        ap (λ j. is_key_before (get_or (texts ks) j d) (get_or (texts ks) i d)) next
        ∙ (ap₂ is_key_before (get_or-map (λ (k : Key). k.now) ks (i + 1) (bor d) d inside)
        (get_or-map (λ (k : Key). k.now) ks i (bor d) d (omega (arith, inside)))
        ∙ sorted i (bor d) (omega arith) inside)

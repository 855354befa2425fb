-- The pairs that tiles stand for, ascending, each once.
use Rattle.std.proofs.Common.{◌≡◌, ℕ, ◌+◌, ◌-◌, ◌*◌, ◌/◌, ◌%◌, ◌^◌, ◌<◌, ◌≤◌, Bool, true, false, ◌&&◌, ◌||◌, List, [], ◌∷◌, ◌++◌, length, get_or, map, filter}
use Rattle.std.proofs.Common.{if◌then◌else◌, refl, sym, ◌∙◌, ap, ap₂, subst, inl, inr, arith}
use Rattle.std.specs.Prelude.{sum_by, count_ones}
use Rattle.std.specs.Int.{bit_at}
use Rattle.std.specs.List.{flat_map, list_all}
use Rattle.std.proofs.Math.Nat.{pow-suc}
use Rattle.std.proofs.lemmas.List.{length-map}
use Rattle.std.proofs.lemmas.List.Folds.{list_any-append}
use Rattle.std.proofs.lemmas.List.Sums.{sum_by-cons}
use Rattle.std.proofs.lemmas.Bool.{and_parts, and_from, or_cases, or_left, or_right, or_from, both_ways, false_from_ne_true, cases_Bool, cases_lt}
use Rattle.std.specs.Int.Count.{ones_step}
use Rattle.std.proofs.lemmas.Nat.{ones-le}
use Rattle.std.proofs.lemmas.Nat.Bits.{bit_at_lowest, bit_at-suc}
use Rattle.fork_path.specs.declared.tiles.Tile.{Tile}
use Rattle.fork_path.specs.Pairs.{is_pair_before, are_ascending_pairs, is_same_pair, has_pair, has_pairs, with_pair, with_each}
use Rattle.fork_path.specs.Tiles.{key_of, keys_of, bit_of, holds, some_holds, set_places, pairs_in, pairs_of}
use Rattle.fork_path.proofs.PairOrder.{before-from, cases_pair, same_pair-true, same_pair_self, same_pair_from, ascending-rest, before-rest, has-none}
use Rattle.fork_path.proofs.PairOrder.{has-before}
use Rattle.fork_path.proofs.PairSets.{ascending-before, ascending-with_pair, has-with_pair, length-with_pair}
use Rattle.fork_path.proofs.Merges.{has-with_each, ascending-with_each}
use Rattle.fork_path.proofs.TileBits.{same_tests, holds-parts, holds-from}
use Rattle.fork_path.proofs.TileLists.{holds-no_key}

-- ===== The places of bits

places-set : (count from n : ℕ) → n % 2 ≡ 1 → set_places (ℕ.suc count) from n ≡ from ∷ set_places count (from + 1) (n / 2)
unfolding set_places
places-set count from n e = rw e refl

places-clear : (count from n : ℕ) → n % 2 ≡ 0 → set_places (ℕ.suc count) from n ≡ set_places count (from + 1) (n / 2)
unfolding set_places
places-clear count from n e = rw e refl

places-none : (from n : ℕ) → set_places 0 from n ≡ []
unfolding set_places
places-none from n = refl

-- so many places as bits are set
length-places : (count from n : ℕ) → n < 2 ^ count → length (set_places count from n) ≡ count_ones n
length-places ℕ.zero from n fits = ap length (places-none from n) ∙ (let none = ones-le 0 n fits in omega (arith, none))
length-places (ℕ.suc count) from n fits =
    let half : n / 2 < 2 ^ count = omega (arith, pow-suc 2 count) in
    let step = ones_step n in
    let rest = length-places count (from + 1) (n / 2) half in
    elim (cases_lt (n % 2) 1) [
      | inl lt ↦ ap length (places-clear count from n (omega (arith, lt))) ∙ rest ∙ omega (arith, step, lt)
      | inr le ↦ ap length (places-set count from n (omega (arith, le)))
          ∙ (let e : 1 + length (set_places count (from + 1) (n / 2)) ≡ count_ones n = omega (arith, step, le, rest) in omega (arith, e))
    ]

module _ (t : Tile) where
  -- the pair of a place
  abbrev at : ℕ → ℕ × ℕ
  at i = (t.forks * 32 + i / 2, t.branches * 2 + i % 2)

  at-before : (i k : ℕ) → i < k → is_pair_before (at i) (at k) ≡ true
  at-before i k lt = elim (cases_lt (i / 2) (k / 2)) [
    | inl less ↦ before-from (at i) (at k) (inl (omega (arith, less)))
    | inr ge ↦ before-from (at i) (at k) (inr (omega (arith, lt, ge), omega (arith, lt, ge)))
  ]

  later : (i count from n : ℕ) → i < from → list_all (is_pair_before (at i)) (map at (set_places count from n)) ≡ true
  later i ℕ.zero from n lt = ap (λ is. list_all (is_pair_before (at i)) (map at is)) (places-none from n)
  later i (ℕ.suc count) from n lt =
      let rest = later i count (from + 1) (n / 2) (omega (arith, lt)) in
      elim (cases_lt (n % 2) 1) [
        | inl less ↦ ap (λ is. list_all (is_pair_before (at i)) (map at is)) (places-clear count from n (omega (arith, less))) ∙ rest
        | inr le ↦
            ap (λ is. list_all (is_pair_before (at i)) (map at is)) (places-set count from n (omega (arith, le)))
            ∙ and_from (is_pair_before (at i) (at from)) (list_all (is_pair_before (at i)) (map at (set_places count (from + 1) (n / 2))))
            (at-before i from lt) rest
      ]

  ascending-places : (count from n : ℕ) → are_ascending_pairs (map at (set_places count from n)) ≡ true
  ascending-places ℕ.zero from n = ap (λ is. are_ascending_pairs (map at is)) (places-none from n)
  ascending-places (ℕ.suc count) from n =
      let rest = ascending-places count (from + 1) (n / 2) in
      elim (cases_lt (n % 2) 1) [
        | inl less ↦ ap (λ is. are_ascending_pairs (map at is)) (places-clear count from n (omega (arith, less))) ∙ rest
        | inr le ↦
            ap (λ is. are_ascending_pairs (map at is)) (places-set count from n (omega (arith, le)))
            ∙ ascending-before (at from) (map at (set_places count (from + 1) (n / 2))) (later from count (from + 1) (n / 2) (omega arith)) rest
      ]

  -- the place of a pair among the later bits is its place among all
  place-behind : (p : ℕ × ℕ) (count from n : ℕ) → (i : ℕ) × (from + 1 ≤ i) × (i < from + 1 + count) × (bit_at (n / 2) (i - (from + 1)) ≡ 1) × (p ≡ at i) →
      (i : ℕ) × (from ≤ i) × (i < from + ℕ.suc count) × (bit_at n (i - from) ≡ 1) × (p ≡ at i)
  place-behind p count from n w =
      let i = w.0 in
      let low = w.1 in
      let high = w.2 in
      let next : i - from ≡ ℕ.suc (i - (from + 1)) = omega (arith, low) in
      (i, omega (arith, low), omega (arith, high), ap (bit_at n) next ∙ bit_at-suc n (i - (from + 1)) ∙ w.3, w.4)

  -- each of the pairs has its bit set
  place-of : (p : ℕ × ℕ) (count from n : ℕ) → has_pair p (map at (set_places count from n)) ≡ true → (i : ℕ) × (from ≤ i) × (i < from + count)
      × (bit_at n (i - from) ≡ 1) × (p ≡ at i)
  place-of p ℕ.zero from n h = absurd (both_ways false refl (sym (ap (λ is. has_pair p (map at is)) (places-none from n)) ∙ h))
  place-of p (ℕ.suc count) from n h = elim (cases_lt (n % 2) 1) [
    | inl less ↦ place-behind p count from n (place-of p count (from + 1) (n / 2)
        (sym (ap (λ is. has_pair p (map at is)) (places-clear count from n (omega (arith, less)))) ∙ h))
    | inr le ↦
        let e = places-set count from n (omega (arith, le)) in
        elim (or_cases (is_same_pair p (at from)) (has_pair p (map at (set_places count (from + 1) (n / 2)))) (sym (ap (λ is. has_pair p (map at is)) e) ∙ h)) [
          | inl here ↦
              let zero : from - from ≡ 0 = omega arith in
              (from, omega arith, omega arith, ap (bit_at n) zero ∙ bit_at_lowest n ∙ omega (arith, le), same_pair-true p (at from) here)
          | inr more ↦ place-behind p count from n (place-of p count (from + 1) (n / 2) more)
        ]
  ]

  -- each bit that is set has its pair
  has-place : (count from n i : ℕ) → from ≤ i → i < from + count → bit_at n (i - from) ≡ 1 → has_pair (at i) (map at (set_places count from n)) ≡ true
  has-place ℕ.zero from n i low high set = absurd (omega arith)
  has-place (ℕ.suc count) from n i low high set = elim (cases_lt from i) [
    | inl lt ↦
        let next : i - from ≡ ℕ.suc (i - (from + 1)) = omega (arith, lt) in
        let rest = has-place count (from + 1) (n / 2) i (omega (arith, lt)) (omega (arith, high)) (sym (ap (bit_at n) next ∙ bit_at-suc n (i - (from + 1)))
        ∙ set) in
        elim (cases_lt (n % 2) 1) [
          | inl less ↦ ap (λ is. has_pair (at i) (map at is)) (places-clear count from n (omega (arith, less))) ∙ rest
          | inr le ↦
              ap (λ is. has_pair (at i) (map at is)) (places-set count from n (omega (arith, le)))
              ∙ or_right (is_same_pair (at i) (at from)) (has_pair (at i) (map at (set_places count (from + 1) (n / 2)))) rest
        ]
    | inr ge ↦
        let here : i ≡ from = omega (arith, low, ge) in
        let zero : i - from ≡ 0 = omega (arith, ge) in
        let odd : n % 2 ≡ 1 = sym (bit_at_lowest n) ∙ sym (ap (bit_at n) zero) ∙ set in
        ap (λ is. has_pair (at i) (map at is)) (places-set count from n odd)
        ∙ or_left (is_same_pair (at i) (at from)) (has_pair (at i) (map at (set_places count (from + 1) (n / 2))))
        (same_pair_from (at i) (at from) (ap at here))
  ]

  pub has-pairs_in : (p : ℕ × ℕ) → has_pair p (pairs_in t) ≡ holds t p
  unfolding pairs_in
  has-pairs_in p = same_tests (has_pair p (pairs_in t)) (holds t p) there back
    where
      there : has_pair p (pairs_in t) ≡ true → holds t p ≡ true
      there h =
          let w = place-of p 64 0 t.bits h in
          let i = w.0 in
          let high : i < 64 = w.2 in
          let is : p ≡ at i = w.4 in
          let same : i - 0 ≡ bit_of (at i) = omega (arith, high) in
          subst (λ q. holds t q ≡ true) (sym is) (holds-from t (at i) (omega (arith, high)) (omega (arith, high)) (ap (bit_at t.bits) (sym same) ∙ w.3))

      back : holds t p ≡ true → has_pair p (pairs_in t) ≡ true
      back h =
          let w = holds-parts t p h in
          let f = w.0.0 in
          let b = w.0.1 in
          let pair : ℕ → ℕ → ℕ × ℕ = λ fork branch. (fork, branch) in
          let zero : bit_of p - 0 ≡ bit_of p = omega arith in
          let e₀ : t.forks * 32 + bit_of p / 2 ≡ p.0 = omega (arith, f) in
          let e₁ : t.branches * 2 + bit_of p % 2 ≡ p.1 = omega (arith, b) in
          let is : at (bit_of p) ≡ p = ap₂ pair e₀ e₁ in
          subst (λ q. has_pair q (map at (set_places 64 0 t.bits)) ≡ true) is
          (has-place 64 0 t.bits (bit_of p) (omega arith) (omega arith) (ap (bit_at t.bits) zero ∙ w.1))

  pub ascending-pairs_in : are_ascending_pairs (pairs_in t) ≡ true
  unfolding pairs_in
  ascending-pairs_in = ascending-places 64 0 t.bits

  pub length-pairs_in : t.bits < 2 ^ 64 → length (pairs_in t) ≡ count_ones t.bits
  unfolding pairs_in
  length-pairs_in fits = length-map (set_places 64 0 t.bits) at ∙ length-places 64 0 t.bits fits

-- ===== The pairs of all tiles

has-flat : (ts : List Tile) (p : ℕ × ℕ) → has_pair p (flat_map pairs_in ts) ≡ some_holds ts p
has-flat [] p = refl
has-flat (t ∷ ts) p = list_any-append (is_same_pair p) (pairs_in t) (flat_map pairs_in ts) ∙ ap₂ (λ a b. a || b) (has-pairs_in t p) (has-flat ts p)

pub has-pairs_of : (ts : List Tile) (p : ℕ × ℕ) → has_pair p (pairs_of ts) ≡ some_holds ts p
unfolding pairs_of
has-pairs_of ts p = has-with_each p (flat_map pairs_in ts) [] ∙ or_false (has_pair p (flat_map pairs_in ts)) ∙ has-flat ts p
  where
    or_false : (b : Bool) → (b || false) ≡ b
    or_false true = refl
    or_false false = refl

pub ascending-pairs_of : (ts : List Tile) → are_ascending_pairs (pairs_of ts) ≡ true
unfolding pairs_of
ascending-pairs_of ts = ascending-with_each (flat_map pairs_in ts) [] refl

pub no-pairs_of : (ts : List Tile) → ts ≡ [] → pairs_of ts ≡ []
unfolding pairs_of
no-pairs_of ts e = ap pairs_of e

-- ===== How many there are

with_each-append : (ps rs qs : List (ℕ × ℕ)) → with_each (ps ++ rs) qs ≡ with_each rs (with_each ps qs)
with_each-append [] rs qs = refl
with_each-append (p ∷ ps) rs qs = with_each-append ps rs (with_pair p qs)

length-new : (ps qs : List (ℕ × ℕ)) → are_ascending_pairs ps ≡ true → are_ascending_pairs qs ≡ true →
    ((p : ℕ × ℕ) → has_pair p ps ≡ true → has_pair p qs ≡ false) → length (with_each ps qs) ≡ length ps + length qs
length-new [] qs up up₂ apart = omega arith
length-new (p ∷ ps) qs up up₂ apart =
    let new : has_pair p qs ≡ false = apart p (or_left (is_same_pair p p) (has_pair p ps) (same_pair_self p)) in
    let more : length (with_pair p qs) ≡ length qs + 1 = length-with_pair p qs up₂ ∙ ap (λ b. if b then length qs else length qs + 1) new in
    let whole = length-new ps (with_pair p qs) (ascending-rest p ps up) (ascending-with_pair p qs up₂) further in
    omega (arith, more, whole)
  where
    further : (x : ℕ × ℕ) → has_pair x ps ≡ true → has_pair x (with_pair p qs) ≡ false
    further x h =
        let other : is_same_pair x p ≡ false = false_from_ne_true (is_same_pair x p) (λ same.
        both_ways (has_pair x ps) (subst (λ z. has_pair z ps ≡ false) (sym (same_pair-true x p same)) (has-none p ps (before-rest p ps up))) h) in
        has-with_pair x p qs ∙ or_from (is_same_pair x p) (has_pair x qs) other (apart x (or_right (is_same_pair x p) (has_pair x ps) h))

-- each tile's bits are those of a word
abbrev pub AreWords : List Tile → Type 0
AreWords [] = Unit {0}
AreWords (t ∷ ts) = (t.bits < 2 ^ 64) × AreWords ts

pub words-from : (ts : List Tile) → ((i : ℕ) (d : Tile) → i < length ts → (get_or ts i d).bits < 2 ^ 64) → AreWords ts
words-from [] each = tt
words-from (t ∷ ts) each = (each 0 t (omega arith), words-from ts (λ i d lt. each (ℕ.suc i) d (omega arith)))

length-flat : (ts : List Tile) (qs : List (ℕ × ℕ)) → are_ascending_pairs (keys_of ts) ≡ true → AreWords ts → are_ascending_pairs qs ≡ true →
    ((p : ℕ × ℕ) → some_holds ts p ≡ true → has_pair p qs ≡ false) →
    length (with_each (flat_map pairs_in ts) qs) ≡ sum_by (λ t. count_ones t.bits) ts + length qs
length-flat [] qs up words up₂ apart = omega arith
length-flat (t ∷ ts) qs up words up₂ apart =
    let own = length-new (pairs_in t) qs (ascending-pairs_in t) up₂ (λ p h. apart p (or_left (holds t p) (some_holds ts p) (sym (has-pairs_in t p) ∙ h))) in
    let many = length-pairs_in t words.0 in
    let rest = length-flat ts (with_each (pairs_in t) qs) (ascending-rest (key_of t) (keys_of ts) up) words.1 (ascending-with_each (pairs_in t) qs up₂)
    further in
    ap length (with_each-append (pairs_in t) (flat_map pairs_in ts) qs) ∙ rest ∙ omega (arith, own, many, sum_by-cons (λ (u : Tile). count_ones u.bits) t ts)
  where
    further : (p : ℕ × ℕ) → some_holds ts p ≡ true → has_pair p (with_each (pairs_in t) qs) ≡ false
    further p h =
        let other : holds t p ≡ false = false_from_ne_true (holds t p)
        (λ k. both_ways (some_holds ts p) (holds-no_key t ts p k (has-none (key_of t) (keys_of ts) (before-rest (key_of t) (keys_of ts) up))) h) in
        has-with_each p (pairs_in t) qs ∙ or_from (has_pair p (pairs_in t)) (has_pair p qs) (has-pairs_in t p ∙ other)
        (apart p (or_right (holds t p) (some_holds ts p) h))

pub length-pairs_of : (ts : List Tile) → are_ascending_pairs (keys_of ts) ≡ true → AreWords ts → length (pairs_of ts) ≡ sum_by (λ t. count_ones t.bits) ts
unfolding pairs_of
length-pairs_of ts up words = length-flat ts [] up words refl (λ p h. refl) ∙ omega arith

-- ===== Ascending pairs by their members

pub same_members : (ps qs : List (ℕ × ℕ)) → are_ascending_pairs ps ≡ true → are_ascending_pairs qs ≡ true → ((p : ℕ × ℕ) → has_pair p ps ≡ has_pair p qs) →
    ps ≡ qs
same_members [] [] up up₂ same = refl
same_members [] (q ∷ qs) up up₂ same = absurd (both_ways false refl (same q ∙ or_left (is_same_pair q q) (has_pair q qs) (same_pair_self q)))
same_members (p ∷ ps) [] up up₂ same = absurd (both_ways false refl (sym (same p) ∙ or_left (is_same_pair p p) (has_pair p ps) (same_pair_self p)))
same_members (p ∷ ps) (q ∷ qs) up up₂ same = elim (cases_pair p q) [
  | inl e ↦ absurd (both_ways (has_pair p (q ∷ qs)) (has-before p q qs up₂ e) (sym (same p) ∙ or_left (is_same_pair p p) (has_pair p ps) (same_pair_self p)))
  | inr (inl e) ↦ absurd (both_ways (has_pair q (p ∷ ps)) (has-before q p ps up e) (same q ∙ or_left (is_same_pair q q) (has_pair q qs) (same_pair_self q)))
  | inr (inr e) ↦ ap₂ (λ x xs. x ∷ xs) e (same_members ps qs (ascending-rest p ps up) (ascending-rest q qs up₂) (rest e))
]
  where
    rest : p ≡ q → (x : ℕ × ℕ) → has_pair x ps ≡ has_pair x qs
    rest e x = elim (cases_Bool (is_same_pair x p)) [
      | inl here ↦
          let is : x ≡ p = same_pair-true x p here in
          let none₁ : has_pair x ps ≡ false = subst (λ z. has_pair z ps ≡ false) (sym is) (has-none p ps (before-rest p ps up)) in
          let none₂ : has_pair x qs ≡ false = subst (λ z. has_pair z qs ≡ false) (sym (is ∙ e)) (has-none q qs (before-rest q qs up₂)) in
          none₁ ∙ sym none₂
      | inr other ↦
          let other₂ : is_same_pair x q ≡ false = subst (λ z. is_same_pair x z ≡ false) e other in
          sym (ap (λ b. b || has_pair x ps) other) ∙ same x ∙ ap (λ b. b || has_pair x qs) other₂
    ]

pub has-filter : (keep : ℕ × ℕ → Bool) (qs : List (ℕ × ℕ)) (p : ℕ × ℕ) → has_pair p (filter keep qs) ≡ (keep p && has_pair p qs)
has-filter keep [] p = sym (and_false (keep p))
  where
    and_false : (b : Bool) → (b && false) ≡ false
    and_false true = refl
    and_false false = refl
has-filter keep (q ∷ qs) p = elim (cases_Bool (keep q)) [
  | inl k ↦ rw k (ap (λ b. is_same_pair p q || b) (has-filter keep qs p) ∙ elim (cases_Bool (is_same_pair p q)) [
    | inl same ↦ let kp : keep p ≡ true = ap keep (same_pair-true p q same) ∙ k in rw (same, kp) refl
    | inr other ↦ rw other refl
  ])
  | inr n ↦ rw n (has-filter keep qs p ∙ elim (cases_Bool (is_same_pair p q)) [
    | inl same ↦ let np : keep p ≡ false = ap keep (same_pair-true p q same) ∙ n in rw np refl
    | inr other ↦ rw other refl
  ])
]

pub has_pairs-true : (ps qs : List (ℕ × ℕ)) → ((p : ℕ × ℕ) → has_pair p qs ≡ true → has_pair p ps ≡ true) → has_pairs ps qs ≡ true
has_pairs-true ps [] all = refl
has_pairs-true ps (q ∷ qs) all =
    and_from (has_pair q ps) (has_pairs ps qs) (all q (or_left (is_same_pair q q) (has_pair q qs) (same_pair_self q)))
    (has_pairs-true ps qs (λ p h. all p (or_right (is_same_pair p q) (has_pair p qs) h)))

pub has_pairs-false : (ps qs : List (ℕ × ℕ)) (p : ℕ × ℕ) → has_pair p qs ≡ true → has_pair p ps ≡ false → has_pairs ps qs ≡ false
has_pairs-false ps [] p h n = absurd (both_ways false refl h)
has_pairs-false ps (q ∷ qs) p h n = elim (or_cases (is_same_pair p q) (has_pair p qs) h) [
  | inl here ↦ let none : has_pair q ps ≡ false = subst (λ z. has_pair z ps ≡ false) (same_pair-true p q here) n in rw none refl
  | inr there ↦ let none = has_pairs-false ps qs p there n in
      false_from_ne_true (has_pairs ps (q ∷ qs)) (λ t. both_ways (has_pairs ps qs) none (and_parts (has_pair q ps) (has_pairs ps qs) t).1)
]

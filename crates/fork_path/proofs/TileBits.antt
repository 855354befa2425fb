-- The bits of a tile, and the pairs that they stand for.
use Rattle.std.proofs.Common.{◌≡◌, ℕ, ◌+◌, ◌*◌, ◌/◌, ◌%◌, ◌^◌, ◌<◌, ◌≤◌, min, Bool, true, false, not, ◌&&◌, ◌||◌, eqb, refl, sym, ◌∙◌, ap, ap₂, subst, ◌⊎◌}
use Rattle.std.proofs.Common.{inl, inr, eqb-true, eq-eqb, arith}
use Rattle.std.specs.Int.{bit_at, bit_not, w64}
use Rattle.std.specs.Int.Bits.{bit_and, bit_or, and_zero_r}
use Rattle.std.proofs.lemmas.Bool.{and_parts, and_from, or_cases, or_left, or_right, both_ways, false_from_ne_true, cases_lt, cases_Bool, cases_eq}
use Rattle.std.proofs.lemmas.Nat.{and_le_l, one_shl}
use Rattle.std.proofs.lemmas.Nat.Bits.{bit_at-lt, bit_at-zero, bit_at_and, bit_at_or, bit_at-pow_same, bit_at-pow_other, bit_at_clear_same}
use Rattle.std.proofs.lemmas.Nat.Bits.{bit_at_clear_other, same_from_bits_below}
use Rattle.fork_path.specs.declared.tiles.Tile.{Tile}
use Rattle.fork_path.specs.Pairs.{is_same_pair}
use Rattle.fork_path.specs.Tiles.{key_of, bit_of, holds}
use Rattle.fork_path.proofs.PairOrder.{same_pair-true, same_pair_from}

-- two tests that pass together are one
pub same_tests : (a b : Bool) → (a ≡ true → b ≡ true) → (b ≡ true → a ≡ true) → a ≡ b
same_tests true b h k = sym (h refl)
same_tests false true h k = k refl
same_tests false false h k = refl

-- ===== What a tile holds

pub holds-parts : (t : Tile) (p : ℕ × ℕ) → holds t p ≡ true → ((p.0 / 32 ≡ t.forks) × (p.1 / 2 ≡ t.branches)) × (bit_at t.bits (bit_of p) ≡ 1)
unfolding holds
holds-parts t p h =
    let w = and_parts (is_same_pair (p.0 / 32, p.1 / 2) (key_of t)) (eqb (bit_at t.bits (bit_of p)) 1) h in
    let k = and_parts (eqb (p.0 / 32) t.forks) (eqb (p.1 / 2) t.branches) w.0 in
    ((eqb-true (p.0 / 32) t.forks k.0, eqb-true (p.1 / 2) t.branches k.1), eqb-true (bit_at t.bits (bit_of p)) 1 w.1)

pub holds-from : (t : Tile) (p : ℕ × ℕ) → p.0 / 32 ≡ t.forks → p.1 / 2 ≡ t.branches → bit_at t.bits (bit_of p) ≡ 1 → holds t p ≡ true
unfolding holds
holds-from t p e₀ e₁ b =
    and_from (is_same_pair (p.0 / 32, p.1 / 2) (key_of t)) (eqb (bit_at t.bits (bit_of p)) 1)
    (and_from (eqb (p.0 / 32) t.forks) (eqb (p.1 / 2) t.branches) (eq-eqb (p.0 / 32) t.forks e₀) (eq-eqb (p.1 / 2) t.branches e₁))
    (eq-eqb (bit_at t.bits (bit_of p)) 1 b)

pub holds-key : (t : Tile) (p : ℕ × ℕ) → holds t p ≡ true → key_of t ≡ (p.0 / 32, p.1 / 2)
holds-key t p h =
    let w = holds-parts t p h in
    let pair : ℕ → ℕ → ℕ × ℕ = λ fork branch. (fork, branch) in
    ap₂ pair (sym w.0.0) (sym w.0.1)

-- a clear bit is no pair
pub holds-clear : (t : Tile) (p : ℕ × ℕ) → bit_at t.bits (bit_of p) ≡ 0 → holds t p ≡ false
holds-clear t p z = false_from_ne_true (holds t p) (λ h. let w = holds-parts t p h in let one = w.1 in omega (arith, one, z))

-- a tile of other pairs has none of these
pub holds-beside : (t u : Tile) (p : ℕ × ℕ) → holds t p ≡ true → is_same_pair (key_of t) (key_of u) ≡ false → holds u p ≡ false
holds-beside t u p h n = false_from_ne_true (holds u p) (λ k. both_ways (is_same_pair (key_of t) (key_of u)) n
    (same_pair_from (key_of t) (key_of u) (holds-key t p h ∙ sym (holds-key u p k))))

-- ===== One tile within another

pub within-inside : (t u : Tile) → key_of t ≡ key_of u → bit_and t.bits u.bits ≡ t.bits → (p : ℕ × ℕ) → holds t p ≡ true → holds u p ≡ true
within-inside t u key all p h =
    let w = holds-parts t p h in
    let i = bit_of p in
    let m : bit_at t.bits i ≡ min (bit_at t.bits i) (bit_at u.bits i) = ap (λ n. bit_at n i) (sym all) ∙ bit_at_and t.bits u.bits i in
    let one : bit_at t.bits i ≡ 1 = w.1 in
    holds-from u p (w.0.0 ∙ ap (λ k. k.0) key) (w.0.1 ∙ ap (λ k. k.1) key) (omega (arith, m, one, bit_at-lt u.bits i))

-- a place where one bit is set and the other is clear, or no such place
differ : (w a b : ℕ) → ((i : ℕ) × (i < w) × (bit_at a i ≡ 1) × (bit_at b i ≡ 0)) ⊎ ((i : ℕ) → i < w → bit_at a i ≤ bit_at b i)
differ ℕ.zero a b = inr (λ i lt. absurd (omega arith))
differ (ℕ.suc w) a b = elim (differ w a b) [
  | inl d ↦ let lt = d.1 in inl (d.0, omega (arith, lt), d.2, d.3)
  | inr h ↦ elim (cases_lt (bit_at b w) (bit_at a w)) [
    | inl lt ↦ inl (w, omega arith, omega (arith, lt, bit_at-lt a w), omega (arith, lt, bit_at-lt a w))
    | inr le ↦ inr (λ i l. elim (cases_lt i w) [
      | inl lt ↦ h i lt
      | inr ge ↦ let e : w ≡ i = omega arith in subst (λ n. bit_at a n ≤ bit_at b n) e le
    ])
  ]
]

pub within-outside : (t u : Tile) → key_of t ≡ key_of u → t.bits < 2 ^ 64 → (bit_and t.bits u.bits ≡ t.bits → ⊥) → (p : ℕ × ℕ) × (holds t p ≡ true)
    × (holds u p ≡ false)
within-outside t u key fits other = elim (differ 64 t.bits u.bits) [
  | inl d ↦
      let i = d.0 in
      let lt : i < 64 = d.1 in
      let p : ℕ × ℕ = (t.forks * 32 + i / 2, t.branches * 2 + i % 2) in
      let at : i ≡ bit_of p = omega (arith, lt) in (
        p,
        holds-from t p (omega (arith, lt)) (omega (arith, lt)) (subst (λ n. bit_at t.bits n ≡ 1) at d.2),
        holds-clear u p (subst (λ n. bit_at u.bits n ≡ 0) at d.3),
      )
  | inr h ↦
      absurd (other (same_from_bits_below 64 (bit_and t.bits u.bits) t.bits (omega (arith, and_le_l t.bits u.bits, fits)) fits
      (λ i l. bit_at_and t.bits u.bits i ∙ omega (arith, h i l))))
]

-- ===== Two tiles as one, and a tile of one pair

pub joined-holds : (t u : Tile) → key_of t ≡ key_of u → (p : ℕ × ℕ) → holds (record t { bits = bit_or t.bits u.bits }) p ≡ (holds t p || holds u p)
joined-holds t u key p = same_tests (holds (record t { bits = bit_or t.bits u.bits }) p) (holds t p || holds u p) there back
  where
    there : holds (record t { bits = bit_or t.bits u.bits }) p ≡ true → (holds t p || holds u p) ≡ true
    there h =
        let w = holds-parts (record t { bits = bit_or t.bits u.bits }) p h in
        let m = bit_at_or t.bits u.bits (bit_of p) in
        let one = w.1 in
        elim (cases_lt 0 (bit_at t.bits (bit_of p))) [
          | inl some ↦ or_left (holds t p) (holds u p) (holds-from t p w.0.0 w.0.1 (omega (arith, some, bit_at-lt t.bits (bit_of p))))
          | inr none ↦ or_right (holds t p) (holds u p) (holds-from u p (w.0.0 ∙ ap (λ k. k.0) key) (w.0.1 ∙ ap (λ k. k.1) key) (omega (arith, none, m, one)))
        ]

    back : (holds t p || holds u p) ≡ true → holds (record t { bits = bit_or t.bits u.bits }) p ≡ true
    back h =
        let m = bit_at_or t.bits u.bits (bit_of p) in
        elim (or_cases (holds t p) (holds u p) h) [
          | inl k ↦
              let w = holds-parts t p k in
              let one = w.1 in
              holds-from (record t { bits = bit_or t.bits u.bits }) p w.0.0 w.0.1 (omega (arith, m, one, bit_at-lt u.bits (bit_of p)))
          | inr k ↦
              let w = holds-parts u p k in
              let one = w.1 in
              holds-from (record t { bits = bit_or t.bits u.bits }) p (w.0.0 ∙ ap (λ k. k.0) (sym key)) (w.0.1 ∙ ap (λ k. k.1) (sym key))
              (omega (arith, m, one, bit_at-lt t.bits (bit_of p)))
        ]

pub one-holds : (t : Tile) (fork branch k : ℕ) → t.forks ≡ fork / 32 → t.branches ≡ branch / 2 → k ≡ bit_of (fork, branch) → t.bits ≡ 1 * 2 ^ k % 2 ^ 64 →
    (p : ℕ × ℕ) → holds t p ≡ is_same_pair p (fork, branch)
one-holds t fork branch k e₀ e₁ place made p = same_tests (holds t p) (is_same_pair p (fork, branch)) there back
  where
    lt : k < 64
    lt = omega (arith, place)

    bits : t.bits ≡ 2 ^ k
    bits = made ∙ one_shl k 64 lt

    there : holds t p ≡ true → is_same_pair p (fork, branch) ≡ true
    there h =
        let w = holds-parts t p h in
        let f = w.0.0 in
        let b = w.0.1 in
        elim (cases_eq (bit_of p) k) [
          | inl e ↦ and_from (eqb p.0 fork) (eqb p.1 branch) (eq-eqb p.0 fork (omega (arith, e, place, f, e₀)))
              (eq-eqb p.1 branch (omega (arith, e, place, b, e₁)))
          | inr ne ↦
              let one : bit_at t.bits (bit_of p) ≡ 1 = w.1 in
              let none : bit_at t.bits (bit_of p) ≡ 0 = ap (λ n. bit_at n (bit_of p)) bits ∙ bit_at-pow_other k (bit_of p) ne in
              absurd (omega (arith, one, none))
        ]

    back : is_same_pair p (fork, branch) ≡ true → holds t p ≡ true
    back h =
        let e = same_pair-true p (fork, branch) h in
        subst (λ q. holds t q ≡ true) (sym e)
        (holds-from t (fork, branch) (sym e₀) (sym e₁) (ap (bit_at t.bits) (sym place) ∙ ap (λ n. bit_at n k) bits ∙ bit_at-pow_same k))

-- ===== A tile without a fork

-- a tile of other forks
pub without-other : (t : Tile) (fork : ℕ) → (t.forks ≡ fork / 32 → ⊥) → (p : ℕ × ℕ) → holds t p ≡ (not (eqb p.0 fork) && holds t p)
without-other t fork other p = elim (cases_Bool (eqb p.0 fork)) [
  | inl e ↦
      let none : holds t p ≡ false = false_from_ne_true (holds t p) (λ h. other (sym (holds-parts t p h).0.0 ∙ ap (λ n. n / 32) (eqb-true p.0 fork e))) in
      rw (e, none) refl
  | inr ne ↦ rw ne refl
]

pub without-holds : (t : Tile) (fork a b : ℕ) → t.forks ≡ fork / 32 → a ≡ bit_of (fork, 0) → b ≡ bit_of (fork, 1) →
    (n : ℕ) → n ≡ bit_and (bit_and t.bits (bit_not w64 (1 * 2 ^ a % 2 ^ 64))) (bit_not w64 (1 * 2 ^ b % 2 ^ 64)) → (p : ℕ × ℕ) →
    holds (record t { bits = n }) p ≡ (not (eqb p.0 fork) && holds t p)
without-holds t fork a b forks first second n made p = same_tests (holds (record t { bits = n }) p) (not (eqb p.0 fork) && holds t p) there back
  where
    cleared : ℕ
    cleared = bit_and t.bits (bit_not w64 (1 * 2 ^ a % 2 ^ 64))

    lt₁ : a < 64
    lt₁ = omega (arith, first)

    lt₂ : b < 64
    lt₂ = omega (arith, second)

    -- the other bits stay
    stays : (i : ℕ) → i < 64 → (i ≡ a → ⊥) → (i ≡ b → ⊥) → bit_at n i ≡ bit_at t.bits i
    stays i lt na nb = ap (λ m. bit_at m i) made ∙ bit_at_clear_other w64 cleared b lt₂ i lt nb ∙ bit_at_clear_other w64 t.bits a lt₁ i lt na

    clear₁ : bit_at n a ≡ 0
    clear₁ = ap (λ m. bit_at m a) made ∙ bit_at_clear_other w64 cleared b lt₂ a lt₁ (λ e. omega (arith, e, first, second)) ∙ bit_at_clear_same w64 t.bits a lt₁

    clear₂ : bit_at n b ≡ 0
    clear₂ = ap (λ m. bit_at m b) made ∙ bit_at_clear_same w64 cleared b lt₂

    there : holds (record t { bits = n }) p ≡ true → (not (eqb p.0 fork) && holds t p) ≡ true
    there h =
        let w = holds-parts (record t { bits = n }) p h in
        let one : bit_at n (bit_of p) ≡ 1 = w.1 in
        let na : bit_of p ≡ a → ⊥ = λ e. let z : bit_at n (bit_of p) ≡ 0 = ap (bit_at n) e ∙ clear₁ in omega (arith, one, z) in
        let nb : bit_of p ≡ b → ⊥ = λ e. let z : bit_at n (bit_of p) ≡ 0 = ap (bit_at n) e ∙ clear₂ in omega (arith, one, z) in
        let kept : holds t p ≡ true = holds-from t p w.0.0 w.0.1 (sym (stays (bit_of p) (omega arith) na nb) ∙ one) in
        elim (cases_Bool (eqb p.0 fork)) [
          | inl e ↦
              let f = eqb-true p.0 fork e in
              elim (cases_lt (p.1 % 2) 1) [
                | inl even ↦ absurd (na (omega (arith, f, even, first)))
                | inr odd ↦ absurd (nb (omega (arith, f, odd, second)))
              ]
          | inr ne ↦ rw (ne, kept) refl
        ]

    back : (not (eqb p.0 fork) && holds t p) ≡ true → holds (record t { bits = n }) p ≡ true
    back h =
        let k = and_parts (not (eqb p.0 fork)) (holds t p) h in
        let w = holds-parts t p k.1 in
        let f = w.0.0 in
        let apart : p.0 ≡ fork → ⊥ = λ e. both_ways (not (eqb p.0 fork)) (rw (eq-eqb p.0 fork e) refl) k.0 in
        let na : bit_of p ≡ a → ⊥ = λ e. apart (omega (arith, e, first, f, forks)) in
        let nb : bit_of p ≡ b → ⊥ = λ e. apart (omega (arith, e, second, f, forks)) in
        holds-from (record t { bits = n }) p w.0.0 w.0.1 (stays (bit_of p) (omega arith) na nb ∙ w.1)

pub cleared-holds : (t : Tile) (p : ℕ × ℕ) → holds (record t { bits = 0 }) p ≡ false
cleared-holds t p = holds-clear (record t { bits = 0 }) p (bit_at-zero (bit_of p))

-- a tile without bits has none
pub no_bit-holds : (t : Tile) (p : ℕ × ℕ) → eqb t.bits 0 ≡ true → holds t p ≡ false
no_bit-holds t p none =
    let zero : t.bits ≡ 0 = eqb-true t.bits 0 none in
    holds-clear t p (ap (λ m. bit_at m (bit_of p)) zero ∙ bit_at-zero (bit_of p))

-- nor has one that is left out
pub left_out-holds : (t : Tile) (p : ℕ × ℕ) → not (eqb t.bits 0) ≡ false → holds t p ≡ false
left_out-holds t p n = no_bit-holds t p (given (eqb t.bits 0) n)
  where
    given : (b : Bool) → not b ≡ false → b ≡ true
    given true e = refl
    given false e = absurd (both_ways true e refl)

-- a tile with bits has a pair
pub some_bit-holds : (t : Tile) → t.bits < 2 ^ 64 → eqb t.bits 0 ≡ false → (p : ℕ × ℕ) × (holds t p ≡ true)
some_bit-holds t fits some =
    let w = within-outside t (record t { bits = 0 }) refl fits (λ e. both_ways (eqb t.bits 0) some (eq-eqb t.bits 0 (sym e ∙ and_zero_r t.bits))) in
    (w.0, w.1)

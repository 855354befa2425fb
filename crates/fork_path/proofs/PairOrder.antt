-- The order of pairs, and what stands in ascending ones.
use Rattle.std.proofs.Common.{◌≡◌, ℕ, ◌<◌, ◌≤◌, true, false, ◌&&◌, List, [], ◌∷◌, length, get_or, drop, ltb, eqb, refl, sym, ◌∙◌, ap₂, subst, ◌⊎◌, inl, inr}
use Rattle.std.proofs.Common.{eqb-true, eq-eqb, arith}
use Rattle.std.specs.List.{AllWithin, list_all}
use Rattle.std.specs.List.Sorted.{IsPartitionedBy}
use Rattle.std.proofs.lemmas.Bool.{and_parts, and_from, or_cases, or_left, or_right, both_ways, false_from_ne_true, ltb-true, lt-ltb, cases_lt}
use Rattle.fork_path.specs.Pairs.{is_pair_before, are_ascending_pairs, is_same_pair, has_pair}

-- ===== Two pairs

-- by fork, or by branch in one fork
before-cases : (a b : ℕ × ℕ) → is_pair_before a b ≡ true → (a.0 < b.0) ⊎ ((a.0 ≡ b.0) × (a.1 < b.1))
before-cases a b h = elim (or_cases (ltb a.0 b.0) (eqb a.0 b.0 && ltb a.1 b.1) h) [
  | inl lt ↦ inl (ltb-true a.0 b.0 lt)
  | inr m ↦ let p = and_parts (eqb a.0 b.0) (ltb a.1 b.1) m in inr (eqb-true a.0 b.0 p.0, ltb-true a.1 b.1 p.1)
]

pub before-from : (a b : ℕ × ℕ) → (a.0 < b.0) ⊎ ((a.0 ≡ b.0) × (a.1 < b.1)) → is_pair_before a b ≡ true
before-from a b (inl lt) = or_left (ltb a.0 b.0) (eqb a.0 b.0 && ltb a.1 b.1) (lt-ltb a.0 b.0 lt)
before-from a b (inr p) =
    or_right (ltb a.0 b.0) (eqb a.0 b.0 && ltb a.1 b.1) (and_from (eqb a.0 b.0) (ltb a.1 b.1) (eq-eqb a.0 b.0 p.0) (lt-ltb a.1 b.1 p.1))

pub same_pair-true : (a b : ℕ × ℕ) → is_same_pair a b ≡ true → a ≡ b
same_pair-true a b h =
    let p = and_parts (eqb a.0 b.0) (eqb a.1 b.1) h in
    let pair : ℕ → ℕ → ℕ × ℕ = λ fork branch. (fork, branch) in
    ap₂ pair (eqb-true a.0 b.0 p.0) (eqb-true a.1 b.1 p.1)

pub same_pair_self : (a : ℕ × ℕ) → is_same_pair a a ≡ true
same_pair_self a = and_from (eqb a.0 a.0) (eqb a.1 a.1) (eq-eqb a.0 a.0 refl) (eq-eqb a.1 a.1 refl)

pub same_pair_from : (a b : ℕ × ℕ) → a ≡ b → is_same_pair a b ≡ true
same_pair_from a b e = subst (λ z. is_same_pair a z ≡ true) e (same_pair_self a)

-- one stands before the other, or they are one
pub cases_pair : (a b : ℕ × ℕ) → (is_pair_before a b ≡ true) ⊎ ((is_pair_before b a ≡ true) ⊎ (a ≡ b))
cases_pair a b = elim (cases_lt a.0 b.0) [
  | inl lt ↦ inl (before-from a b (inl lt))
  | inr le ↦ elim (cases_lt b.0 a.0) [
    | inl lt ↦ inr (inl (before-from b a (inl lt)))
    | inr ge ↦ elim (cases_lt a.1 b.1) [
      | inl lt ↦ inl (before-from a b (inr (omega arith, lt)))
      | inr le₂ ↦ elim (cases_lt b.1 a.1) [
        | inl lt ↦ inr (inl (before-from b a (inr (omega arith, lt))))
        | inr ge₂ ↦
            let pair : ℕ → ℕ → ℕ × ℕ = λ fork branch. (fork, branch) in
            let forks : a.0 ≡ b.0 = omega arith in
            let branches : a.1 ≡ b.1 = omega arith in
            inr (inr (ap₂ pair forks branches))
      ]
    ]
  ]
]

pub before_trans : (a b c : ℕ × ℕ) → is_pair_before a b ≡ true → is_pair_before b c ≡ true → is_pair_before a c ≡ true
before_trans a b c h k = elim (before-cases a b h) [
  | inl lt ↦ elim (before-cases b c k) [
    | inl lt₂ ↦ before-from a c (inl (omega arith))
    | inr q ↦ let e = q.0 in before-from a c (inl (omega arith))
  ]
  | inr p ↦ elim (before-cases b c k) [
    | inl lt₂ ↦ let e = p.0 in before-from a c (inl (omega arith))
    | inr q ↦ let lt = p.1 in let lt₂ = q.1 in before-from a c (inr (p.0 ∙ q.0, omega arith))
  ]
]

pub before-itself : (a : ℕ × ℕ) → is_pair_before a a ≡ true → ⊥
before-itself a h = elim (before-cases a a h) [
  | inl lt ↦ omega arith
  | inr p ↦ let lt = p.1 in omega arith
]

pub before_isnt_after : (a b : ℕ × ℕ) → is_pair_before a b ≡ true → is_pair_before b a ≡ false
before_isnt_after a b h = false_from_ne_true (is_pair_before b a) (λ k. before-itself a (before_trans a b a h k))

pub before-isnt_same : (a b : ℕ × ℕ) → is_pair_before a b ≡ true → is_same_pair a b ≡ false
before-isnt_same a b h =
    false_from_ne_true (is_same_pair a b) (λ t. before-itself b (subst (λ z. is_pair_before z b ≡ true) (same_pair-true a b t) h))

pub after-isnt_same : (a b : ℕ × ℕ) → is_pair_before b a ≡ true → is_same_pair a b ≡ false
after-isnt_same a b h =
    false_from_ne_true (is_same_pair a b) (λ t. before-itself b (subst (λ z. is_pair_before b z ≡ true) (same_pair-true a b t) h))

-- what neither stands before it nor is it stands behind it
pub behind : (a b : ℕ × ℕ) → is_pair_before b a ≡ false → is_same_pair a b ≡ false → is_pair_before a b ≡ true
behind a b n m = elim (cases_pair a b) [
  | inl h ↦ h
  | inr (inl h) ↦ absurd (both_ways (is_pair_before b a) n h)
  | inr (inr e) ↦ absurd (both_ways (is_same_pair a b) m (same_pair_from a b e))
]

-- ===== Ascending pairs

pub ascending-rest : (p : ℕ × ℕ) (ps : List (ℕ × ℕ)) → are_ascending_pairs (p ∷ ps) ≡ true → are_ascending_pairs ps ≡ true
ascending-rest p [] up = refl
ascending-rest p (q ∷ ps) up = (and_parts (is_pair_before p q) (are_ascending_pairs (q ∷ ps)) up).1

-- the first stands before each other
pub before-rest : (p : ℕ × ℕ) (ps : List (ℕ × ℕ)) → are_ascending_pairs (p ∷ ps) ≡ true → list_all (is_pair_before p) ps ≡ true
before-rest p [] up = refl
before-rest p (q ∷ ps) up =
    let parts = and_parts (is_pair_before p q) (are_ascending_pairs (q ∷ ps)) up in
    and_from (is_pair_before p q) (list_all (is_pair_before p) ps) parts.0 (further ps (before-rest q ps parts.1))
  where
    further : (rs : List (ℕ × ℕ)) → list_all (is_pair_before q) rs ≡ true → list_all (is_pair_before p) rs ≡ true
    further [] a = refl
    further (r ∷ rs) a =
        let h = and_parts (is_pair_before q r) (list_all (is_pair_before q) rs) a in
        and_from (is_pair_before p r) (list_all (is_pair_before p) rs)
        (before_trans p q r (and_parts (is_pair_before p q) (are_ascending_pairs (q ∷ ps)) up).0 h.0) (further rs h.1)

-- what stands before each of these is none of them
pub has-none : (p : ℕ × ℕ) (ps : List (ℕ × ℕ)) → list_all (is_pair_before p) ps ≡ true → has_pair p ps ≡ false
has-none p [] a = refl
has-none p (q ∷ ps) a =
    let h = and_parts (is_pair_before p q) (list_all (is_pair_before p) ps) a in
    rw (before-isnt_same p q h.0) (has-none p ps h.1)

-- what stands before the first of ascending pairs is none of them
pub has-before : (p q : ℕ × ℕ) (qs : List (ℕ × ℕ)) → are_ascending_pairs (q ∷ qs) ≡ true → is_pair_before p q ≡ true → has_pair p (q ∷ qs) ≡ false
has-before p q qs up h = has-none p (q ∷ qs) (before-rest p (q ∷ qs) (and_from (is_pair_before p q) (are_ascending_pairs (q ∷ qs)) h up))

-- a pair is none of ascending ones from a place on where those before another place stand before it, and it before that one
pub has-between : (p : ℕ × ℕ) (ps : List (ℕ × ℕ)) (start place : ℕ) → are_ascending_pairs ps ≡ true → start ≤ place → place ≤ length ps →
    AllWithin (λ q. is_pair_before q p ≡ true) ps start place → (place < length ps → is_pair_before p (get_or ps place p) ≡ true) →
    has_pair p (drop start ps) ≡ false
has-between p [] ℕ.zero place up le within below above = refl
has-between p [] (ℕ.suc start) place up le within below above = refl
has-between p (q ∷ ps) ℕ.zero ℕ.zero up le within below above = has-before p q ps up (above (omega arith))
has-between p (q ∷ ps) ℕ.zero (ℕ.suc place) up le within below above =
    rw (after-isnt_same p q (below 0 q (omega arith) (omega arith)))
    (has-between p ps 0 place (ascending-rest q ps up) (omega arith) (omega arith) (λ k d lo hi. below (ℕ.suc k) d (omega arith) (omega arith))
    (λ lt. above (omega arith)))
has-between p (q ∷ ps) (ℕ.suc start) ℕ.zero up le within below above = absurd (omega arith)
has-between p (q ∷ ps) (ℕ.suc start) (ℕ.suc place) up le within below above =
    has-between p ps start place (ascending-rest q ps up) (omega arith) (omega arith) (λ k d lo hi. below (ℕ.suc k) d (omega arith) (omega arith))
    (λ lt. above (omega arith))

-- what is at a place is one of these
pub has-at : (p : ℕ × ℕ) (ps : List (ℕ × ℕ)) (n : ℕ) → n < length ps → get_or ps n p ≡ p → has_pair p ps ≡ true
has-at p [] n lt e = absurd (omega arith)
has-at p (q ∷ ps) ℕ.zero lt e = or_left (is_same_pair p q) (has_pair p ps) (same_pair_from p q (sym e))
has-at p (q ∷ ps) (ℕ.suc n) lt e = or_right (is_same_pair p q) (has_pair p ps) (has-at p ps n (omega arith) e)

-- ascending pairs are parted by each pair
pub parted : (p : ℕ × ℕ) (ps : List (ℕ × ℕ)) → are_ascending_pairs ps ≡ true → IsPartitionedBy (λ q. is_pair_before q p) ps
parted p ps up i j d le lt h = go ps i j up le lt h
  where
    head : (q : ℕ × ℕ) (qs : List (ℕ × ℕ)) (k : ℕ) → list_all (is_pair_before q) qs ≡ true → k < length qs → is_pair_before (get_or qs k d) p ≡ true →
        is_pair_before q p ≡ true
    head q [] k a lt' h' = absurd (omega arith)
    head q (r ∷ rs) ℕ.zero a lt' h' = before_trans q r p (and_parts (is_pair_before q r) (list_all (is_pair_before q) rs) a).0 h'
    head q (r ∷ rs) (ℕ.suc k) a lt' h' = head q rs k (and_parts (is_pair_before q r) (list_all (is_pair_before q) rs) a).1 (omega arith) h'

    go : (qs : List (ℕ × ℕ)) (a b : ℕ) → are_ascending_pairs qs ≡ true → a ≤ b → b < length qs → is_pair_before (get_or qs b d) p ≡ true →
        is_pair_before (get_or qs a d) p ≡ true
    go [] a b u l m t = absurd (omega arith)
    go (q ∷ qs) ℕ.zero ℕ.zero u l m t = t
    go (q ∷ qs) ℕ.zero (ℕ.suc b) u l m t = head q qs b (before-rest q qs u) (omega arith) t
    go (q ∷ qs) (ℕ.suc a) ℕ.zero u l m t = absurd (omega arith)
    go (q ∷ qs) (ℕ.suc a) (ℕ.suc b) u l m t = go qs a b (ascending-rest q qs u) (omega arith) (omega arith) t

-- Places that passes own, and sums over all passes.
use Rattle.std.proofs.Common.{◌≡◌, ◌⊎◌, if◌then◌else◌, ℕ, ◌+◌, ◌<◌, ◌≤◌, ◌==◌, Bool, true, false, nat_lt, List, [], ◌∷◌, ◌++◌, set, refl, sym, ap, subst, inl}
use Rattle.std.proofs.Common.{inr, arith, eq-eqb, ne_eqb}
use Rattle.std.proofs.lemmas.Bool.{cases_lt, ltb-true, lt-ltb, le-ltb}
use mathlib.Core.Logic.{dite}
use native.Mathlib.Decide.{ℕ_discrete}
use Rattle.std.proofs.lemmas.Bool.Decides.{nat_tests}
use Rattle.std.specs.List.{range_with_len}
use mathlib.Core.Option.{some, some-injective, some-ne-none}
use lib.ListN.{get_elem?}
use Rattle.dag_lock.specs.declared.views.View.{View}
use Rattle.dag_lock.specs.Known.{Ascends, put_place, merged}
use Rattle.dag_lock.specs.Turns.{total, times, once_below}

pub total_set : (f : View → ℕ) (l : List View) (i : ℕ) (v w : View) → get_elem? l i ≡ some v → total f (set l i w) + f v ≡ total f l + f w
total_set f [] i v w e = absurd (some-ne-none v (sym e))
total_set f (x ∷ xs) ℕ.zero v w e = let is : f x ≡ f v = ap f (some-injective x v e) in omega arith
total_set f (x ∷ xs) (ℕ.suc i) v w e = omega (arith, total_set f xs i v w e)

pub total_snoc : (f : View → ℕ) (l : List View) (w : View) → total f (l ++ w ∷ []) ≡ total f l + f w
total_snoc f [] w = omega arith
total_snoc f (x ∷ xs) w = omega (arith, total_snoc f xs w)

pub total_at : (f : View → ℕ) (l : List View) (i : ℕ) (v : View) → get_elem? l i ≡ some v → f v ≤ total f l
total_at f [] i v e = absurd (some-ne-none v (sym e))
total_at f (x ∷ xs) ℕ.zero v e = let is : f x ≡ f v = ap f (some-injective x v e) in omega arith
total_at f (x ∷ xs) (ℕ.suc i) v e = omega (arith, total_at f xs i v e)

pub times_snoc : (p : ℕ) (ps : List ℕ) (q : ℕ) → times p (ps ++ q ∷ []) ≡ times p ps + (if p == q then 1 else 0)
times_snoc p [] q = omega arith
times_snoc p (x ∷ xs) q = omega (arith, times_snoc p xs q)

-- no place stands in a list below where it begins, or behind where it ends
pub times_low : (p a n : ℕ) (ps : List ℕ) → Ascends a n ps → p < a → times p ps ≡ 0
times_low p a n [] up low = refl
times_low p a n (q ∷ qs) up low =
    let not_here : p == q ≡ false = ne_eqb p q (λ e. omega (arith, up.0)) in
    let later = times_low p (q + 1) n qs up.2 (omega (arith, up.0)) in
    rw not_here (omega arith)

pub times_high : (p a n : ℕ) (ps : List ℕ) → Ascends a n ps → n ≤ p → times p ps ≡ 0
times_high p a n [] up high = refl
times_high p a n (q ∷ qs) up high =
    let not_here : p == q ≡ false = ne_eqb p q (λ e. omega (arith, up.1)) in
    let later = times_high p (q + 1) n qs up.2 high in
    rw not_here (omega arith)

pub ascends_more : (a n m : ℕ) (ps : List ℕ) → Ascends a n ps → n ≤ m → Ascends a m ps
ascends_more a n m [] up more = tt
ascends_more a n m (p ∷ ps) up more = (up.0, omega (arith, up.1), ascends_more (p + 1) n m ps up.2 more)

pub ascends_from : (a b n : ℕ) (ps : List ℕ) → Ascends b n ps → a ≤ b → Ascends a n ps
ascends_from a b n [] up from = tt
ascends_from a b n (p ∷ ps) up from = (omega (arith, up.0), up.1, up.2)

-- a new last place
pub ascends_snoc : (a n : ℕ) (ps : List ℕ) → Ascends a n ps → a ≤ n → Ascends a (n + 1) (ps ++ n ∷ [])
ascends_snoc a n [] up within = (within, omega arith, tt)
ascends_snoc a n (p ∷ ps) up within = (up.0, omega (arith, up.1), ascends_snoc (p + 1) n ps up.2 (omega (arith, up.1)))

put_by : (a n p q : ℕ) (qs : List ℕ) (b : Bool) → nat_lt p q ≡ b → Ascends a n (q ∷ qs) → a ≤ p → p < n → times p (q ∷ qs) ≡ 0
    → Ascends (q + 1) n (put_place p qs) ⊎ (p ≤ q) → Ascends a n (if b then p ∷ q ∷ qs else q ∷ put_place p qs)
put_by a n p q qs true is up from below none more = (from, below, (grind (arith, nat_tests), up.1, up.2))
put_by a n p q qs false is up from below none (inl more) = (up.0, up.1, more)
put_by a n p q qs false is up from below none (inr low) =
    let same : p ≡ q = grind (arith, nat_tests) in
    let here : p == q ≡ true = eq-eqb p q same in
    let once : 1 + times p qs ≡ 0 = rw here at none in
    absurd (omega arith)

pub ascends_put : (a n p : ℕ) (ps : List ℕ) → Ascends a n ps → a ≤ p → p < n → times p ps ≡ 0 → Ascends a n (put_place p ps)
ascends_put a n p [] up from below none = (from, below, tt)
ascends_put a n p (q ∷ qs) up from below none =
    let later : times p qs ≡ 0 = omega arith in
    put_by a n p q qs (nat_lt p q) refl up from below none
    (elim (cases_lt q p) [
      | inl less ↦ inl (ascends_put (q + 1) n p qs up.2 (omega arith) below later)
      | inr low ↦ inr low
    ])

put_times : (p q x : ℕ) (xs : List ℕ) (b : Bool) → times p (put_place q xs) ≡ (if p == q then 1 else 0) + times p xs
    → times p (if b then q ∷ x ∷ xs else x ∷ put_place q xs) ≡ (if p == q then 1 else 0) + times p (x ∷ xs)
put_times p q x xs true more = refl
put_times p q x xs false more = omega (arith, more)

pub times_put : (p q : ℕ) (ps : List ℕ) → times p (put_place q ps) ≡ (if p == q then 1 else 0) + times p ps
times_put p q [] = refl
times_put p q (x ∷ xs) = put_times p q x xs (nat_lt q x) (times_put p q xs)

pub times_merged : (p : ℕ) (ps qs : List ℕ) → times p (merged ps qs) ≡ times p ps + times p qs
times_merged p [] qs = omega arith
times_merged p (x ∷ xs) qs = omega (arith, times_put p x (merged xs qs), times_merged p xs qs)

-- places of two passes that share none
pub ascends_merged : (a n : ℕ) (ps qs : List ℕ) → Ascends a n ps → Ascends a n qs → ((p : ℕ) → times p ps + times p qs ≤ 1) → Ascends a n (merged ps qs)
ascends_merged a n [] qs up vp apart = vp
ascends_merged a n (x ∷ xs) qs up vp apart =
    let here : x == x ≡ true = eq-eqb x x refl in
    let once : (1 + times x xs) + times x qs ≤ 1 = rw here at (apart x) in
    let others = ascends_merged a n xs qs (ascends_from a (x + 1) n xs up.2 (omega (arith, up.0))) vp (λ p. omega (arith, apart p)) in
    ascends_put a n x (merged xs qs) others up.0 up.1 (omega (arith, times_merged x xs qs))

once_by : (p n : ℕ) (b : Bool) → nat_lt p n ≡ b → once_below p (n + 1) ≡ (if p == n then 1 else 0) + (if b then 1 else 0)
once_by p n true is =
    let below : p < n = ltb-true p n is in
    let further : nat_lt p (n + 1) ≡ true = lt-ltb p (n + 1) (omega arith) in
    let other : p == n ≡ false = ne_eqb p n (λ e. omega arith) in
    rw (further, other) refl
once_by p n false is =
    let high : n ≤ p = grind (arith, nat_tests) in
    dite (ℕ_discrete p n)
    (λ e.
    let further : nat_lt p (n + 1) ≡ true = lt-ltb p (n + 1) (omega arith) in
    let same : p == n ≡ true = eq-eqb p n e in
    rw (further, same) refl)
    (λ ne.
    let further : nat_lt p (n + 1) ≡ false = le-ltb p (n + 1) (omega arith) in
    let other : p == n ≡ false = ne_eqb p n ne in
    rw (further, other) refl)

pub once_more : (p n : ℕ) → once_below p (n + 1) ≡ (if p == n then 1 else 0) + once_below p n
once_more p n = once_by p n (nat_lt p n) refl

-- each place from a on is there once, so the list is all of them
pub all_places : (a k n : ℕ) (ps : List ℕ) → a + k ≡ n → Ascends a n ps → ((p : ℕ) → a ≤ p → p < n → times p ps ≡ 1) → ps ≡ range_with_len a k
all_places a ℕ.zero n [] long up all = refl
all_places a ℕ.zero n (p ∷ ps) long up all = absurd (omega (arith, up.0, up.1))
all_places a (ℕ.suc k) n [] long up all = let none : times a [] ≡ 1 = all a (omega arith) (omega arith) in absurd (omega arith)
all_places a (ℕ.suc k) n (p ∷ ps) long up all =
    elim (cases_lt a p) [
      | inl less ↦
          let none : times a (p ∷ ps) ≡ 0 = times_low a (a + 1) n (p ∷ ps) (omega arith, up.1, up.2) (omega arith) in
          let some : times a (p ∷ ps) ≡ 1 = all a (omega arith) (omega arith) in
          absurd (omega arith)
      | inr most ↦
          let same : p ≡ a = omega (arith, up.0) in
          let rest = all_places (a + 1) k n ps (omega arith) (subst (λ b. Ascends (b + 1) n ps) same up.2)
          (λ q from below.
          let not_here : q == p ≡ false = ne_eqb q p (λ e. omega arith) in
          let once : 0 + times q ps ≡ 1 = rw not_here at (all q (omega arith) below) in
          omega arith) in
          λ i. same i ∷ rest i
    ]

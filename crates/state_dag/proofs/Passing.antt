-- Tests of some or all items of a list.
use Rattle.std.proofs.Common.{◌≡◌, ℕ, ◌+◌, ◌<◌, Bool, true, false, ◌&&◌, ◌||◌, List, [], ◌∷◌, length, take, find, get_or, Some, None, inl, inr, refl, sym, ap}
use Rattle.std.proofs.Common.{◌∙◌, arith}
use Rattle.std.specs.List.{list_any, list_all}
use Rattle.std.proofs.lemmas.Bool.{and_parts, cases_Bool, cond-true, cond-false}
use Rattle.std.proofs.lemmas.Option.{none-some}
use Rattle.std.proofs.lemmas.List.Folds.{list_any_more}

turn : (a b c : Bool) → (a || (b || c)) ≡ ((b || a) || c)
turn true true c = refl
turn true false c = refl
turn false true c = refl
turn false false c = refl

-- one more item of which some may pass
pub or-more : {X : Type 0} (test : X → Bool) (xs : List X) (i : ℕ) (d : X) (old now next : Bool) → i < length xs → now ≡ (list_any test (take i xs) || old)
    → next ≡ (test (get_or xs i d) || now) →
    next ≡ (list_any test (take (i + 1) xs) || old)
or-more test xs i d old now next lt before here =
    here ∙ ap (λ b. test (get_or xs i d) || b) before ∙ turn (test (get_or xs i d)) (list_any test (take i xs)) old
    ∙ ap (λ b. b || old) (sym (list_any_more test xs i d lt))

pub all-at : {X : Type 0} (test : X → Bool) (xs : List X) (i : ℕ) (d : X) → list_all test xs ≡ true → i < length xs → test (get_or xs i d) ≡ true
all-at test [] i d all lt = absurd (omega arith)
all-at test (x ∷ xs) ℕ.zero d all lt = (and_parts (test x) (list_all test xs) all).0
all-at test (x ∷ xs) (ℕ.suc i) d all lt = all-at test xs i d (and_parts (test x) (list_all test xs) all).1 (omega arith)

-- what some pass of two tests
pub any-or : {X : Type 0} (a b : X → Bool) (xs : List X) → list_any (λ x. a x || b x) xs ≡ (list_any a xs || list_any b xs)
any-or a b [] = refl
any-or a b (x ∷ xs) = ap (λ c. (a x || b x) || c) (any-or a b xs) ∙ four (a x) (b x) (list_any a xs) (list_any b xs)
  where
    four : (p q r s : Bool) → ((p || q) || (r || s)) ≡ ((p || r) || (q || s))
    four true q r s = refl
    four false true true s = refl
    four false true false s = refl
    four false false r s = refl

pub any-and : {X : Type 0} (b : Bool) (test : X → Bool) (xs : List X) → list_any (λ x. b && test x) xs ≡ (b && list_any test xs)
any-and {X = X} true test xs = refl
any-and {X = X} false test xs = none xs
  where
    none : (ys : List X) → list_any (λ y. false) ys ≡ false
    none [] = refl
    none (y ∷ ys) = none ys

-- either list may be gone through first
pub any-swap : {X : Type 0} (first : X → Bool) (both : X → X → Bool) (ps qs : List X) → list_any (λ p. list_any (λ q. first q && both p q) qs) ps
    ≡ list_any (λ q. first q && list_any (λ p. both p q) ps) qs
any-swap {X = X} first both ps [] = none ps
  where
    none : (ys : List X) → list_any (λ y. false) ys ≡ false
    none [] = refl
    none (y ∷ ys) = none ys
any-swap {X = X} first both ps (q ∷ qs) =
    any-or (λ p. first q && both p q) (λ p. list_any (λ r. first r && both p r) qs) ps
    ∙ ap (λ b. b || list_any (λ p. list_any (λ r. first r && both p r) qs) ps) (any-and (first q) (λ p. both p q) ps)
    ∙ ap (λ b. (first q && list_any (λ p. both p q) ps) || b) (any-swap first both ps qs)

-- the first that passes is the one behind those that don't
pub find-first : {X : Type 0} (test : X → Bool) (xs : List X) (i : ℕ) (d : X) → find test (take i xs) ≡ None → i < length xs → test (get_or xs i d) ≡ true
    → find test xs ≡ Some (get_or xs i d)
find-first test [] i d none lt t = absurd (omega arith)
find-first test (x ∷ xs) ℕ.zero d none lt t = cond-true (test x) (Some x) (find test xs) t
find-first test (x ∷ xs) (ℕ.suc i) d none lt t = elim (cases_Bool (test x)) [
  | inl u ↦ absurd (none-some x (sym none ∙ cond-true (test x) (Some x) (find test (take i xs)) u))
  | inr f ↦ cond-false (test x) (Some x) (find test xs) f ∙ find-first test xs i d (sym (cond-false (test x) (Some x) (find test (take i xs)) f) ∙ none)
      (omega arith) t
]

pub find-none_more : {X : Type 0} (test : X → Bool) (xs : List X) (i : ℕ) (d : X) → find test (take i xs) ≡ None → i < length xs → test (get_or xs i d)
    ≡ false → find test (take (ℕ.suc i) xs) ≡ None
find-none_more test [] i d none lt f = absurd (omega arith)
find-none_more test (x ∷ xs) ℕ.zero d none lt f = cond-false (test x) (Some x) None f
find-none_more test (x ∷ xs) (ℕ.suc i) d none lt f = elim (cases_Bool (test x)) [
  | inl u ↦ absurd (none-some x (sym none ∙ cond-true (test x) (Some x) (find test (take i xs)) u))
  | inr g ↦ cond-false (test x) (Some x) (find test (take (ℕ.suc i) xs)) g
      ∙ find-none_more test xs i d (sym (cond-false (test x) (Some x) (find test (take i xs)) g) ∙ none) (omega arith) f
]

pub find-none_at : {X : Type 0} (test : X → Bool) (xs : List X) (i : ℕ) (d : X) → find test xs ≡ None → i < length xs → test (get_or xs i d) ≡ false
find-none_at test [] i d none lt = absurd (omega arith)
find-none_at test (x ∷ xs) ℕ.zero d none lt = elim (cases_Bool (test x)) [
  | inl u ↦ absurd (none-some x (sym none ∙ cond-true (test x) (Some x) (find test xs) u))
  | inr f ↦ f
]
find-none_at test (x ∷ xs) (ℕ.suc i) d none lt = elim (cases_Bool (test x)) [
  | inl u ↦ absurd (none-some x (sym none ∙ cond-true (test x) (Some x) (find test xs) u))
  | inr f ↦ find-none_at test xs i d (sym (cond-false (test x) (Some x) (find test xs) f) ∙ none) (omega arith)
]

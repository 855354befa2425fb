-- Lists in which nothing stands twice, and how many items two of them have that stand for each other.
use Rattle.std.proofs.Common.{◌≡◌, ◌+◌, ◌≤◌, Bool, true, false, cond, ◌||◌, ◌&&◌, List, [], ◌∷◌, ◌++◌, length, map, filter, IsTrue, IsFalse, inl, inr, refl}
use Rattle.std.proofs.Common.{ap, ap₂, ◌∙◌, arith}
use Rattle.std.specs.List.{list_any, list_all}
use Rattle.std.proofs.lemmas.Bool.{and_parts, and_from, or_cases, or_parts, or_from, or_left, or_right, cases_Bool, both_ways, false_from_ne_true}
use Rattle.std.proofs.lemmas.List.Folds.{list_any-append}

-- ===== Tests over lists

module _ {A B : Type 0} (p : B → Bool) (f : A → B) where
  pub any-map : (xs : List A) → list_any p (map f xs) ≡ list_any (λ x. p (f x)) xs
  any-map [] = refl
  any-map (x ∷ xs) = ap (λ b. p (f x) || b) (any-map xs)

module _ {A : Type 0} (p q : A → Bool) where
  pub any-filter : (xs : List A) → list_any p (filter q xs) ≡ list_any (λ x. q x && p x) xs
  any-filter [] = refl
  any-filter (x ∷ xs) = elim (cases_Bool (q x)) [
    | inl t ↦ rw t (ap (λ b. p x || b) (any-filter xs))
    | inr f ↦ rw f (any-filter xs)
  ]

  pub any-alike : ((x : A) → p x ≡ q x) → (xs : List A) → list_any p xs ≡ list_any q xs
  any-alike same [] = refl
  any-alike same (x ∷ xs) = ap₂ (λ a b. a || b) (same x) (any-alike same xs)

  pub filter-parts : (xs : List A) → length (filter p xs) ≡ length (filter (λ x. q x && p x) xs) + length (filter (λ x. cond (q x) false (p x)) xs)
  filter-parts [] = refl
  filter-parts (x ∷ xs) =
      let rest = filter-parts xs in
      elim (cases_Bool (q x)) [
        | inl t ↦ elim (cases_Bool (p x)) [
          | inl u ↦ rw (t, u) (omega arith)
          | inr n ↦ rw (t, n) rest
        ]
        | inr f ↦ elim (cases_Bool (p x)) [
          | inl u ↦ rw (f, u) (omega arith)
          | inr n ↦ rw (f, n) rest
        ]
      ]

  pub any-implied : ((x : A) → IsTrue (p x) → IsTrue (q x)) → (xs : List A) → IsTrue (list_any p xs) → IsTrue (list_any q xs)
  any-implied f [] h = h
  any-implied f (x ∷ xs) h = elim (or_cases (p x) (list_any p xs) h) [
    | inl t ↦ or_left (q x) (list_any q xs) (f x t)
    | inr m ↦ or_right (q x) (list_any q xs) (any-implied f xs m)
  ]

-- a test that is never true is true of none
pub any-never : {A : Type 0} (xs : List A) → list_any (λ x. false) xs ≡ false
any-never [] = refl
any-never (x ∷ xs) = any-never xs

-- ===== Nothing twice

-- none of these is there twice, by the test
abbrev pub Differ : {A : Type 0} → (A → A → Bool) → List A → Type 0
Differ same [] = Unit {0}
Differ same (x ∷ xs) = (list_any (same x) xs ≡ false) × Differ same xs

module _ {A : Type 0} (same : A → A → Bool) where
  pub differ-filter : (p : A → Bool) (xs : List A) → Differ same xs → Differ same (filter p xs)
  differ-filter p [] d = tt
  differ-filter p (x ∷ xs) d = elim (cases_Bool (p x)) [
    | inl t ↦ rw t (fewer xs d.0, differ-filter p xs d.1)
    | inr f ↦ rw f (differ-filter p xs d.1)
  ]
    where
      fewer : (ys : List A) → list_any (same x) ys ≡ false → list_any (same x) (filter p ys) ≡ false
      fewer [] n = refl
      fewer (y ∷ ys) n =
          let parts = or_parts (same x y) (list_any (same x) ys) n in
          elim (cases_Bool (p y)) [
            | inl t ↦ rw t (or_from (same x y) (list_any (same x) (filter p ys)) parts.0 (fewer ys parts.1))
            | inr f ↦ rw f (fewer ys parts.1)
          ]

  module _ (itself : (x : A) → IsTrue (same x x)) where
    -- what is true of each of these holds of all
    pub all-of : (p : A → Bool) (xs : List A) → ((x : A) → IsTrue (list_any (same x) xs) → IsTrue (p x)) → IsTrue (list_all p xs)
    all-of p [] f = refl
    all-of p (x ∷ xs) f =
        and_from (p x) (list_all p xs) (f x (or_left (same x x) (list_any (same x) xs) (itself x)))
        (all-of p xs (λ z m. f z (or_right (same z x) (list_any (same z) xs) m)))

    -- lists without a common item
    pub differ-append : (xs ys : List A) → Differ same xs → Differ same ys → ((x : A) → IsTrue (list_any (same x) xs) → IsFalse (list_any (same x) ys)) →
        Differ same (xs ++ ys)
    differ-append [] ys d e apart = e
    differ-append (x ∷ xs) ys d e apart = (
      list_any-append (same x) xs ys
          ∙ or_from (list_any (same x) xs) (list_any (same x) ys) d.0 (apart x (or_left (same x x) (list_any (same x) xs) (itself x))),
      differ-append xs ys d.1 e (λ z m. apart z (or_right (same z x) (list_any (same z) xs) m)),
    )

module _ {A B : Type 0} (same_a : A → A → Bool) (same_b : B → B → Bool) (f : A → B)
    (tells : (x z : A) → IsTrue (same_b (f x) (f z)) → IsTrue (same_a x z)) where
  pub differ-map : (xs : List A) → Differ same_a xs → Differ same_b (map f xs)
  differ-map [] d = tt
  differ-map (x ∷ xs) d = (none xs d.0, differ-map xs d.1)
    where
      none : (zs : List A) → list_any (same_a x) zs ≡ false → list_any (same_b (f x)) (map f zs) ≡ false
      none [] n = refl
      none (z ∷ zs) n =
          let parts = or_parts (same_a x z) (list_any (same_a x) zs) n in
          or_from (same_b (f x) (f z)) (list_any (same_b (f x)) (map f zs))
          (false_from_ne_true (same_b (f x) (f z)) (λ t. both_ways (same_a x z) parts.0 (tells x z t))) (none zs parts.1)

-- ===== How many

-- the items without the first that passes
abbrev without_first : {A : Type 0} → (A → Bool) → List A → List A
without_first p [] = []
without_first p (x ∷ xs) = cond (p x) xs (x ∷ without_first p xs)

length-without_first : {A : Type 0} (p : A → Bool) (xs : List A) → list_any p xs ≡ true → length xs ≡ length (without_first p xs) + 1
length-without_first p [] h = absurd (both_ways false refl h)
length-without_first p (x ∷ xs) h = elim (cases_Bool (p x)) [
  | inl t ↦ rw t (omega arith)
  | inr f ↦ (let e = length-without_first p xs (rw f at h) in rw f (omega arith))
]

any-without_first : {A : Type 0} (p q : A → Bool) (xs : List A) → ((x : A) → IsTrue (p x) → IsTrue (q x) → ⊥) → list_any q xs ≡ true →
    list_any q (without_first p xs) ≡ true
any-without_first p q [] other h = h
any-without_first p q (x ∷ xs) other h = elim (cases_Bool (p x)) [
  | inl t ↦ elim (or_cases (q x) (list_any q xs) h) [
    | inl u ↦ absurd (other x t u)
    | inr m ↦ rw t m
  ]
  | inr f ↦ elim (or_cases (q x) (list_any q xs) h) [
    | inl u ↦ rw f (or_left (q x) (list_any q (without_first p xs)) u)
    | inr m ↦ rw f (or_right (q x) (list_any q (without_first p xs)) (any-without_first p q xs other m))
  ]
]

module _ {A B : Type 0} (stands : A → B → Bool) (same : A → A → Bool) (one : (x z : A) (y : B) → IsTrue (stands x y) → IsTrue (stands z y) →
    IsTrue (same x z)) where
  others : (x : A) (xs : List A) (ys : List B) → list_any (same x) xs ≡ false → list_all (λ z. list_any (stands z) ys) xs ≡ true →
      list_all (λ z. list_any (stands z) (without_first (stands x) ys)) xs ≡ true
  others x [] ys out all = refl
  others x (z ∷ xs) ys out all =
      let outs = or_parts (same x z) (list_any (same x) xs) out in
      let parts = and_parts (list_any (stands z) ys) (list_all (λ w. list_any (stands w) ys) xs) all in
      and_from (list_any (stands z) (without_first (stands x) ys)) (list_all (λ w. list_any (stands w) (without_first (stands x) ys)) xs)
      (any-without_first (stands x) (stands z) ys (λ y t u. both_ways (same x z) outs.0 (one x z y t u)) parts.0)
      (others x xs ys outs.1 parts.1)

  -- where each of these, all different, stands for another one of those, they are no more than those
  pub no-more : (xs : List A) (ys : List B) → Differ same xs → list_all (λ z. list_any (stands z) ys) xs ≡ true → length xs ≤ length ys
  no-more [] ys d all = omega arith
  no-more (x ∷ xs) ys d all =
      let parts = and_parts (list_any (stands x) ys) (list_all (λ w. list_any (stands w) ys) xs) all in
      let fewer = length-without_first (stands x) ys parts.0 in
      let rest = no-more xs (without_first (stands x) ys) d.1 (others x xs ys d.0 parts.1) in
      omega arith

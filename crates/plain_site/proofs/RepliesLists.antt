-- What holds of each element of a list holds of what is found, kept or taken of it.
pub use Rattle.tardis_base.proofs.TestParts.{first, second}
use Rattle.std.proofs.Common.{◌≡◌, ℕ, zero, suc, ◌≤◌, Bool, List, [], ◌∷◌, ◌++◌, length, filter, find, take, unwrap_or, Option, Some, None, IsTrue, refl, sym}
use Rattle.std.proofs.Common.{◌∙◌, ap, subst, inl, inr, arith}
use Rattle.std.proofs.lemmas.Bool.{and_from, cases_Bool, cond-true, cond-false}
use Rattle.std.proofs.lemmas.Option.{none-some, same_Some}
use Rattle.std.specs.Prelude.{slice_get}
use Rattle.std.specs.List.{list_all}

-- ===== Tests

-- the option is something, or nothing
pub cases-option : {A : Type 0} (o : Option A) (P : Type 0) → (o ≡ None → P) → ((a : A) → o ≡ Some a → P) → P
cases-option None P f g = f refl
cases-option (Some a) P f g = g a refl

-- ===== Each element

module _ {A : Type 0} (p : A → Bool) where
  pub all-append : (xs ys : List A) → IsTrue (list_all p xs) → IsTrue (list_all p ys) → IsTrue (list_all p (xs ++ ys))
  all-append [] ys a b = b
  all-append (x ∷ xs) ys a b =
      and_from (p x) (list_all p (xs ++ ys)) (first (p x) (list_all p xs) a) (all-append xs ys (second (p x) (list_all p xs) a) b)

  pub all-filter : (q : A → Bool) (xs : List A) → IsTrue (list_all p xs) → IsTrue (list_all p (filter q xs))
  all-filter q [] a = refl
  all-filter q (x ∷ xs) a = elim (cases_Bool (q x)) [
    | inl t ↦
        subst (λ zs. IsTrue (list_all p zs)) (sym (cond-true (q x) (x ∷ filter q xs) (filter q xs) t))
        (and_from (p x) (list_all p (filter q xs)) (first (p x) (list_all p xs) a) (all-filter q xs (second (p x) (list_all p xs) a)))
    | inr f ↦
        subst (λ zs. IsTrue (list_all p zs)) (sym (cond-false (q x) (x ∷ filter q xs) (filter q xs) f))
        (all-filter q xs (second (p x) (list_all p xs) a))
  ]

  pub all-take : (n : ℕ) (xs : List A) → IsTrue (list_all p xs) → IsTrue (list_all p (take n xs))
  all-take zero xs a = refl
  all-take (suc n) [] a = refl
  all-take (suc n) (x ∷ xs) a = and_from (p x) (list_all p (take n xs)) (first (p x) (list_all p xs) a) (all-take n xs (second (p x) (list_all p xs) a))

  pub all-found : (q : A → Bool) (xs : List A) (x : A) → IsTrue (list_all p xs) → find q xs ≡ Some x → IsTrue (p x)
  all-found q [] x a e = absurd (none-some x e)
  all-found q (y ∷ ys) x a e = elim (cases_Bool (q y)) [
    | inl t ↦ subst (λ z. IsTrue (p z)) (same_Some y x (sym (cond-true (q y) (Some y) (find q ys) t) ∙ e)) (first (p y) (list_all p ys) a)
    | inr f ↦ all-found q ys x (second (p y) (list_all p ys) a) (sym (cond-false (q y) (Some y) (find q ys) f) ∙ e)
  ]

  pub all-unwrapped : (o : Option A) (x : A) → IsTrue (p x) → ((y : A) → o ≡ Some y → IsTrue (p y)) → IsTrue (p (unwrap_or o x))
  all-unwrapped None x h f = h
  all-unwrapped (Some y) x h f = f y refl

  pub all-get : (xs : List A) (i : ℕ) (x : A) → IsTrue (list_all p xs) → slice_get xs i ≡ Some x → IsTrue (p x)
  all-get [] i x a e = absurd (none-some x e)
  all-get (y ∷ ys) zero x a e = subst (λ z. IsTrue (p z)) (same_Some y x e) (first (p y) (list_all p ys) a)
  all-get (y ∷ ys) (suc i) x a e = all-get ys i x (second (p y) (list_all p ys) a) e

  -- what one test says of an element another one says too
  pub all-from-all : (q : A → Bool) (xs : List A) → ((x : A) → IsTrue (p x) → IsTrue (q x)) → IsTrue (list_all p xs) → IsTrue (list_all q xs)
  all-from-all q [] f a = refl
  all-from-all q (x ∷ xs) f a = and_from (q x) (list_all q xs) (f x (first (p x) (list_all p xs) a)) (all-from-all q xs f (second (p x) (list_all p xs) a))

  pub length-of-filter : (xs : List A) → length (filter p xs) ≤ length xs
  length-of-filter [] = omega arith
  length-of-filter (x ∷ xs) = elim (cases_Bool (p x)) [
    | inl t ↦ let e = ap length (cond-true (p x) (x ∷ filter p xs) (filter p xs) t) in let l = length-of-filter xs in omega arith
    | inr f ↦ let e = ap length (cond-false (p x) (x ∷ filter p xs) (filter p xs) f) in let l = length-of-filter xs in omega arith
  ]

-- ===== How many

-- what passes the first test passes the second, so there is no more of it
pub fewer-pass : {A : Type 0} (ok p q : A → Bool) (xs : List A) → IsTrue (list_all ok xs) → ((x : A) → IsTrue (ok x) → IsTrue (p x) → IsTrue (q x)) →
    length (filter p xs) ≤ length (filter q xs)
fewer-pass ok p q [] a f = omega arith
fewer-pass ok p q (x ∷ xs) a f =
    let l = fewer-pass ok p q xs (second (ok x) (list_all ok xs) a) f in
    elim (cases_Bool (p x)) [
      | inl t ↦
          let e = ap length (cond-true (p x) (x ∷ filter p xs) (filter p xs) t) in
          let d = ap length (cond-true (q x) (x ∷ filter q xs) (filter q xs) (f x (first (ok x) (list_all ok xs) a) t)) in
          omega arith
      | inr n ↦
          let e = ap length (cond-false (p x) (x ∷ filter p xs) (filter p xs) n) in
          elim (cases_Bool (q x)) [
            | inl t ↦ let d = ap length (cond-true (q x) (x ∷ filter q xs) (filter q xs) t) in omega arith
            | inr m ↦ let d = ap length (cond-false (q x) (x ∷ filter q xs) (filter q xs) m) in omega arith
          ]
    ]

-- How far a list in ascending order was read, while memory may be wanting.
use Rattle.std.proofs.Common.{◌≡◌, ℕ, ◌+◌, ◌<◌, Bool, true, false, ◌&&◌, List, [], ◌∷◌, ◌++◌, Option, Some, None, ap, sym, ◌∙◌, refl, arith, append_assoc}
use Rattle.std.proofs.lemmas.Bool.{and_left, and_right, and_from, and_parts}
use Rattle.std.specs.Prelude.{option_map, Result, Ok, IfOk}
use Rattle.std.specs.Option.{option_map_or}
use Rattle.tardis_base.specs.declared.faults.NoMemory.{NoMemory}
use Rattle.wire_item.specs.Fronts.{Front, only_if, times}
use Rattle.wire_item.specs.Takings.{Makes}
use Rattle.wire_item.proofs.Fronts.{only_if-read}
use Rattle.wire_item.proofs.Takings.{only_if-none, only_if-fails, makes}
use Rattle.wire_item.proofs.Lists.{times-more, times-none, times-begins}

abbrev pub last_of : {A : Type 0} → List A → Option A
last_of [] = None
last_of (x ∷ []) = Some x
last_of (x ∷ y ∷ ys) = last_of (y ∷ ys)

pub last_of-push : {A : Type 0} (xs : List A) (x : A) → last_of (xs ++ x ∷ []) ≡ Some x
last_of-push [] x = refl
last_of-push (y ∷ []) x = refl
last_of-push (y ∷ z ∷ xs) x = last_of-push (z ∷ xs) x

-- the test says that each key stands before the next
pub record IsOrder {A K : Type 0} (key : A → K) (before : K → K → Bool) (ascends : List A → Bool) : Type 0 where
  pub none : ascends [] ≡ true
  pub one : (x : A) → ascends (x ∷ []) ≡ true
  pub two : (x y : A) (ys : List A) → ascends (x ∷ y ∷ ys) ≡ (before (key x) (key y) && ascends (y ∷ ys))

-- the key may stand behind the last
abbrev pub may_follow : {K : Type 0} → (K → K → Bool) → Option K → K → Bool
may_follow before last k = option_map_or (λ l. before l k) last true

pub order-push : {A K : Type 0} (key : A → K) (before : K → K → Bool) (ascends : List A → Bool) → IsOrder key before ascends → (xs : List A) (x : A)
    → ascends xs ≡ true → may_follow before (option_map key (last_of xs)) (key x) ≡ true → ascends (xs ++ x ∷ []) ≡ true
order-push key before ascends o [] x h f = o.one x
order-push key before ascends o (y ∷ []) x h f = o.two y x [] ∙ and_from (before (key y) (key x)) (ascends (x ∷ [])) f (o.one x)
order-push key before ascends o (y ∷ z ∷ xs) x h f =
    let parts = and_parts (before (key y) (key z)) (ascends (z ∷ xs)) (sym (o.two y z xs) ∙ h) in
    o.two y z (xs ++ x ∷ []) ∙ and_from (before (key y) (key z)) (ascends (z ∷ xs ++ x ∷ [])) parts.0 (order-push key before ascends o (z ∷ xs) x parts.1 f)

pub order-breaks : {A K : Type 0} (key : A → K) (before : K → K → Bool) (ascends : List A → Bool) → IsOrder key before ascends →
    (xs : List A) (x : A) (zs : List A)
    → may_follow before (option_map key (last_of xs)) (key x) ≡ false → ascends (xs ++ x ∷ zs) ≡ false
order-breaks key before ascends o [] x zs f = absurd (cc)
order-breaks key before ascends o (y ∷ []) x zs f = o.two y x zs ∙ and_left (before (key y) (key x)) (ascends (x ∷ zs)) f
order-breaks key before ascends o (y ∷ z ∷ xs) x zs f =
    o.two y z (xs ++ x ∷ zs) ∙ and_right (before (key y) (key z)) (ascends (z ∷ xs ++ x ∷ zs)) (order-breaks key before ascends o (z ∷ xs) x zs f)

-- so many things were read in ascending order, and the list has them where there was memory
pub record Progress {A K : Type 0} (key : A → K) (ascends : List A → Bool) (front : Front A) (start : List ℕ) (place : ℕ) (now : List ℕ) (last : Option K)
    (list : Result (List A) NoMemory) : Type 0 where
  pub xs : List A
  pub reads : times front place start ≡ Some (xs, now)
  pub ordered : ascends xs ≡ true
  pub last_is : last ≡ option_map key (last_of xs)
  pub made : IfOk list (λ l. l ≡ xs)

pub progress-start : {A K : Type 0} (key : A → K) (before : K → K → Bool) (ascends : List A → Bool) → IsOrder key before ascends →
    (front : Front A) (start : List ℕ) (list : List A)
    → list ≡ [] → Progress key ascends front start 0 start None (Ok list)
progress-start key before ascends o front start list e = record { xs = []; reads = refl; ordered = o.none; last_is = refl; made = e }

pub progress-none : {A K : Type 0} (key : A → K) (ascends : List A → Bool) (front : Front A) (start : List ℕ) (place n : ℕ) (now : List ℕ)
    (last : Option K) (list : Result (List A) NoMemory)
    → Progress key ascends front start place now last list → front now ≡ None → place < n → only_if ascends (times front n) start ≡ None
progress-none key ascends front start place n now last list p e h =
    only_if-none ascends (times front n) start (times-none front place n start p.xs now p.reads e h)

pub progress-breaks : {A K : Type 0} (key : A → K) (before : K → K → Bool) (ascends : List A → Bool) → IsOrder key before ascends
    → (front : Front A) (start : List ℕ) (place n : ℕ) (now : List ℕ) (last : Option K) (list : Result (List A) NoMemory) (x : A) (next : List ℕ)
    → Progress key ascends front start place now last list → front now ≡ Some (x, next) → may_follow before last (key x) ≡ false → place < n →
    only_if ascends (times front n) start ≡ None
progress-breaks {A} {K} key before ascends o front start place n now last list x next p e f h = go (times front n start) refl
  where
    go : (r : Option (List A × List ℕ)) → times front n start ≡ r → only_if ascends (times front n) start ≡ None
    go None is = only_if-none ascends (times front n) start is
    go (Some read) is =
        let longer = times-more front place start p.xs now x next p.reads e in
        let begins = times-begins front (place + 1) n start (p.xs ++ x ∷ []) next read.0 read.1 longer (omega arith) is in
        let broken = order-breaks key before ascends o p.xs x begins.0 (ap (λ l. may_follow before l (key x)) (sym p.last_is) ∙ f) in
        only_if-fails ascends (times front n) start read.0 read.1 is
        (ap ascends (sym begins.1 ∙ append_assoc p.xs (x ∷ []) begins.0) ∙ broken)

pub progress-more : {A K : Type 0} (key : A → K) (before : K → K → Bool) (ascends : List A → Bool) → IsOrder key before ascends
    → (front : Front A) (start : List ℕ) (place : ℕ) (now : List ℕ) (last : Option K) (list longer : Result (List A) NoMemory) (x : A) (next : List ℕ)
    → (p : Progress key ascends front start place now last list) → front now ≡ Some (x, next) → may_follow before last (key x) ≡ true
    → (ascends (p.xs ++ x ∷ []) ≡ true → IfOk longer (λ l. l ≡ p.xs ++ x ∷ [])) → Progress key ascends front start (place + 1) next (Some (key x)) longer
progress-more key before ascends o front start place now last list longer x next p e f add =
    let ordered = order-push key before ascends o p.xs x p.ordered (ap (λ l. may_follow before l (key x)) (sym p.last_is) ∙ f) in
    record {
      xs = p.xs ++ x ∷ [];
      reads = times-more front place start p.xs now x next p.reads e;
      ordered = ordered;
      last_is = ap (option_map key) (sym (last_of-push p.xs x));
      made = add ordered;
    }

pub progress-whole : {A K : Type 0} (key : A → K) (ascends : List A → Bool) (front : Front A) (start : List ℕ) (place n : ℕ) (now : List ℕ)
    (last : Option K) (list : Result (List A) NoMemory)
    → Progress key ascends front start place now last list → place ≡ n → Makes (only_if ascends (times front n)) start (Some list) now
progress-whole key ascends front start place n now last list p e =
    makes (only_if ascends (times front n)) start now list p.xs
    (only_if-read ascends (times front n) start p.xs now (ap (λ k. times front k start) (sym e) ∙ p.reads) p.ordered) p.made

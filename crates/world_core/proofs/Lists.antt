-- Items of lists by their places.
use Rattle.std.proofs.Common.{◌≡◌, ℕ, ◌-◌, ◌≤◌, Bool, true, false, IsTrue, List, [], ◌∷◌, ◌++◌, length, slice_get, Option, Some, None, ap, sym, ◌∙◌, subst}
use Rattle.std.proofs.Common.{◌+◌, arith, length-append, refl, Result, Ok, Err, OnOk, OnErr}
use Rattle.std.proofs.lemmas.Bool.{and_parts, and_from}
use Rattle.std.proofs.lemmas.List.Folds.{list_all-append}
use Rattle.std.specs.List.{list_all}

pub list_all_get : {X : Type 0} (p : X → Bool) (xs : List X) (i : ℕ) (x : X) → slice_get xs i ≡ Some x → IsTrue (list_all p xs) → IsTrue (p x)
list_all_get p [] i x e all = absurd (cc)
list_all_get {X} p (y ∷ ys) ℕ.zero x e all = subst (λ z. IsTrue (p z)) (ap (λ o. or_else o) e) (and_parts (p y) (list_all p ys) all).0
  where
    or_else : Option X → X
    or_else None = y
    or_else (Some z) = z
list_all_get p (y ∷ ys) (ℕ.suc i) x e all = list_all_get p ys i x e (and_parts (p y) (list_all p ys) all).1

pub get_behind : {X : Type 0} (xs ys : List X) (i : ℕ) → length xs ≤ i → slice_get (xs ++ ys) i ≡ slice_get ys (i - length xs)
get_behind [] ys i h = let same : i ≡ i - 0 = omega arith in ap (slice_get ys) same
get_behind (x ∷ xs) ys ℕ.zero h = absurd (omega (arith, h))
get_behind (x ∷ xs) ys (ℕ.suc i) h =
    let same : ℕ.suc i - length (x ∷ xs) ≡ i - length xs = omega arith in
    get_behind xs ys i (omega (arith, h)) ∙ ap (slice_get ys) (sym same)

pub on_ok : {T E : Type 0} {P Q : Type 0} (r : Result T E) → (P → Q) → OnOk r P → OnOk r Q
on_ok (Ok x) f p = f p
on_ok (Err e) f p = tt

-- a list that got one more item, or none
pub all_grown : {X T E : Type 0} (p : X → Bool) (r : Result T E) (old new : List X) (x : X) → IsTrue (p x) → OnOk r (new ≡ old ++ x ∷ []) →
    OnErr r (new ≡ old) → IsTrue (list_all p old) → IsTrue (list_all p new)
all_grown p (Ok done) old new x one added same all =
    subst (λ ys. IsTrue (list_all p ys)) (sym added)
    (list_all-append p old (x ∷ []) ∙ and_from (list_all p old) (list_all p (x ∷ [])) all (and_from (p x) true one refl))
all_grown p (Err e) old new x one added same all = subst (λ ys. IsTrue (list_all p ys)) (sym same) all

pub one_longer : {X T E : Type 0} (r : Result T E) (old new : List X) (x : X) → OnOk r (new ≡ old ++ x ∷ []) → OnErr r (new ≡ old) →
    length new ≤ length old + 1
one_longer (Ok done) old new x added same = omega (arith, ap length added, length-append old (x ∷ []))
one_longer (Err e) old new x added same = omega (arith, ap length same)

-- false is not true
abbrev is_no : Bool → Type 0
is_no true = ⊥
is_no false = Unit {0}

pub false_is_not_true : false ≡ true → ⊥
false_is_not_true e = subst is_no e tt

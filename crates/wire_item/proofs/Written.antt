-- Bytes that are written one behind the other.
use Rattle.std.proofs.Common.{◌≡◌, ℕ, Bool, IsTrue, ◌+◌, ◌<◌, ◌≤◌, List, [], ◌∷◌, ◌++◌, length, take, get_or, ap, sym, ◌∙◌, arith, append_assoc, append-nil}
use Rattle.std.proofs.Common.{length-append}
use Rattle.std.proofs.lemmas.List.Folds.{length-flat_map-take}
use Rattle.std.proofs.lemmas.List.{take_all, take_more, flat_map_more}
use Rattle.std.proofs.lemmas.Bool.{and_parts}
use Rattle.std.specs.Prelude.{flat_map}
use Rattle.std.specs.List.{list_all}
use Rattle.tardis_base.specs.Sizes.{longest_frame}

-- where two parts have room, the first has
pub room-first : (out a b : List ℕ) → length out + length (a ++ b) ≤ longest_frame → length out + length a ≤ longest_frame
room-first out a b h = omega (arith, length-append a b)

-- and once it is written, the second has
pub room-rest : (out a b new : List ℕ) → new ≡ out ++ a → length out + length (a ++ b) ≤ longest_frame → length new + length b ≤ longest_frame
room-rest out a b new e h = omega (arith, length-append a b, ap length e, length-append out a)

-- two parts are written
pub written-two : (out a b now new : List ℕ) → now ≡ out ++ a → new ≡ now ++ b → new ≡ out ++ (a ++ b)
written-two out a b now new e f = f ∙ ap (λ z. z ++ b) e ∙ append_assoc out a b

-- before a list is written
pub each-first : {A : Type 0} (f : A → List ℕ) (xs : List A) (out : List ℕ) → out ≡ out ++ flat_map f (take 0 xs)
each-first f xs out = sym (append-nil out)

-- where a list has room, its next thing has
pub each-room : {A : Type 0} (f : A → List ℕ) (xs : List A) (i : ℕ) (d x : A) (out now : List ℕ)
    → i < length xs → now ≡ out ++ flat_map f (take i xs) → x ≡ get_or xs i d → length out + length (flat_map f xs) ≤ longest_frame →
    length now + length (f x) ≤ longest_frame
each-room f xs i d x out now h e is room =
    omega (arith, length-flat_map-take f xs i d h, ap (λ z. length (f z)) is, ap length e, length-append out (flat_map f (take i xs)))

-- its next thing is written
pub each-next : {A : Type 0} (f : A → List ℕ) (xs : List A) (i : ℕ) (d x : A) (out now new : List ℕ)
    → i < length xs → now ≡ out ++ flat_map f (take i xs) → x ≡ get_or xs i d → new ≡ now ++ f x → new ≡ out ++ flat_map f (take (i + 1) xs)
each-next f xs i d x out now new h e is n =
    n ∙ ap (λ z. z ++ f x) e ∙ flat_map_more f out (take i xs) x
    ∙ ap (λ z. out ++ flat_map f z) (ap (λ y. take i xs ++ y ∷ []) is ∙ sym (take_more xs i d h))

-- the whole list is written
pub each-last : {A : Type 0} (f : A → List ℕ) (xs : List A) (n : ℕ) (out new : List ℕ) → length xs ≤ n → new ≡ out ++ flat_map f (take n xs) → new ≡ out
    ++ flat_map f xs
each-last f xs n out new h e = e ∙ ap (λ z. out ++ flat_map f z) (take_all n xs h)

valid-at : {A : Type 0} (p : A → Bool) (xs : List A) (i : ℕ) (d : A) → i < length xs → IsTrue (list_all p xs) → IsTrue (p (get_or xs i d))
valid-at p [] i d h all = absurd (omega arith)
valid-at p (x ∷ xs) ℕ.zero d h all = (and_parts (p x) (list_all p xs) all).0
valid-at p (x ∷ xs) (ℕ.suc i) d h all = valid-at p xs i d (omega arith) (and_parts (p x) (list_all p xs) all).1

-- each thing of a valid list is valid
pub each-valid : {A : Type 0} (p : A → Bool) (xs : List A) (i : ℕ) (d x : A) → i < length xs → x ≡ get_or xs i d → IsTrue (list_all p xs) → IsTrue (p x)
each-valid p xs i d x h is all = ap p is ∙ valid-at p xs i d h all

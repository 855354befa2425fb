-- Fronts of one list.
use Rattle.std.proofs.Common.{◌≡◌, ◌≤◌, List, [], ◌∷◌, ◌++◌, length, refl, sym, ap, ◌∙◌, arith, append_assoc, append-nil, length-append}
use Rattle.std.proofs.lemmas.List.{nil_from_length}
use Rattle.tardis_base.specs.Plain.{Event}
use Rattle.dag_lock.specs.Known.{Begins}

pub begins_same : (xs : List Event) → Begins xs xs
begins_same xs = ([], sym (append-nil xs))

pub begins_is : (xs ys : List Event) → xs ≡ ys → Begins xs ys
begins_is xs ys e = ([], sym e ∙ sym (append-nil xs))

pub begins_then : (xs ys zs : List Event) → Begins xs ys → Begins ys zs → Begins xs zs
begins_then xs ys zs (a, p) (b, q) = (a ++ b, q ∙ (ap (λ t. t ++ b) p ∙ append_assoc xs a b))

pub begins_length : (xs ys : List Event) → Begins xs ys → length xs ≤ length ys
begins_length xs ys (a, p) = omega (arith, ap length p, length-append xs a)

two_fronts : (xs ys a b : List Event) → xs ++ a ≡ ys ++ b → length xs ≤ length ys → Begins xs ys
two_fronts [] ys a b e short = (ys, refl)
two_fronts (x ∷ xs) [] a b e short = absurd (omega arith)
two_fronts (x ∷ xs) (y ∷ ys) a b e short =
    let head : y ≡ x = cc in
    let tail : xs ++ a ≡ ys ++ b = cc in
    let more = two_fronts xs ys a b tail (omega arith) in
    (more.0, λ i. head i ∷ more.1 i)

-- of two fronts of one list the shorter begins the longer
pub begins_two : (xs ys zs : List Event) → Begins xs zs → Begins ys zs → length xs ≤ length ys → Begins xs ys
begins_two xs ys zs (a, p) (b, q) short = two_fronts xs ys a b (sym p ∙ q) short

-- a front that isn't shorter is the list
pub begins_whole : (xs ys : List Event) → Begins xs ys → length ys ≤ length xs → xs ≡ ys
begins_whole xs ys (a, p) long =
    let none : a ≡ [] = nil_from_length a (omega (arith, ap length p, length-append xs a)) in
    sym (p ∙ (ap (λ t. xs ++ t) none ∙ append-nil xs))

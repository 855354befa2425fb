-- The slots of the kept states, and those in which none is kept, as one list.
use Rattle.std.proofs.Common.{◌≡◌, ◌∙◌, ◌+◌, ◌++◌, ◌<◌, ◌≤◌, ℕ, true, false, ltb, List, [], ◌∷◌, length, take, drop, get_or, slice_get, unwrap_or, Option, Some, None, refl, sym, ap, arith}
use Rattle.std.specs.List.{remove, HoldsAt}
use Rattle.std.specs.Option.{MatchOption, option_copied}
use Rattle.std.proofs.lemmas.Bool.{lt-ltb, ltb-true, false_from_ne_true}
use Rattle.std.proofs.lemmas.List.{append-nil, append_assoc, length-append, take-append-le, take_all}
use denote.Bor.{Bor}
use Rattle.tardis_base.specs.declared.ids.Slot.{Slot}
use Rattle.state_dag.specs.Nodes.{slot_after_all, with_slot}

pub kept-lent : (xs ys : List Slot) → take (length xs) (xs ++ ys) ≡ xs
kept-lent xs ys = take-append-le (length xs) xs ys (omega arith) ∙ take_all (length xs) xs (omega arith)

-- the first of the others
pub free-read : (xs ys : List Slot) → slice_get (xs ++ ys) (length xs) ≡ slice_get ys 0
free-read [] ys = refl
free-read (x ∷ xs) ys = free-read xs ys

pub front-read : (ys : List Slot) (r : Option (Bor Slot)) → MatchOption r (length ys ≤ 0) (λ x. (0 < length ys) × HoldsAt (λ y. x.now ≡ y) ys 0) →
    option_copied r ≡ slice_get ys 0
front-read [] None h = refl
front-read (y ∷ ys) None h = absurd (omega arith)
front-read [] (Some x) h = (let some = h.0 in absurd (omega arith))
front-read (y ∷ ys) (Some x) h = ap (λ s. Some s) (h.1 x.now)

-- one more kept state
pub kept-more : (xs ys : List Slot) (s : Slot) → s ≡ slot_after_all (xs ++ ys) (length xs) →
    (xs ++ s ∷ []) ++ drop 1 ys ≡ with_slot (xs ++ ys) (length xs) s
kept-more xs [] s is =
    let all = append-nil xs in
    let long = ap length all in
    let none : ltb (length xs) (length (xs ++ [])) ≡ false =
    false_from_ne_true (ltb (length xs) (length (xs ++ []))) (λ t. let lt = ltb-true (length xs) (length (xs ++ [])) t in omega (arith, lt, long)) in
    rw none (append-nil (xs ++ s ∷ []) ∙ ap (λ zs. zs ++ s ∷ []) (sym all))
kept-more xs (y ∷ ys) s is =
    let long = length-append xs (y ∷ ys) in
    let more : ltb (length xs) (length (xs ++ y ∷ ys)) ≡ true = lt-ltb (length xs) (length (xs ++ y ∷ ys)) (omega arith) in
    let same : s ≡ y = is ∙ ap (λ o. unwrap_or o (record { 0 = length xs })) (free-read xs (y ∷ ys)) in
    rw more (append_assoc xs (s ∷ []) ys ∙ ap (λ z. xs ++ z ∷ ys) same)

-- one kept state less
pub kept-less : (xs ys : List Slot) (p : ℕ) (s d : Slot) → p < length xs → s ≡ get_or xs p s →
    remove xs p ++ (ys ++ s ∷ []) ≡ take p (xs ++ ys) ++ drop (p + 1) (xs ++ ys) ++ get_or (xs ++ ys) p d ∷ []
kept-less [] ys p s d lt is = absurd (omega arith)
kept-less (x ∷ xs) ys ℕ.zero s d lt is = sym (append_assoc xs ys (s ∷ [])) ∙ ap (λ z. (xs ++ ys) ++ z ∷ []) is
kept-less (x ∷ xs) ys (ℕ.suc p) s d lt is =
    let next : ℕ.suc p + 1 ≡ ℕ.suc (p + 1) = omega arith in
    ap (λ zs. x ∷ zs) (kept-less xs ys p s d (omega arith) is)
    ∙ ap (λ n. take (ℕ.suc p) (x ∷ (xs ++ ys)) ++ drop n (x ∷ (xs ++ ys)) ++ get_or (x ∷ (xs ++ ys)) (ℕ.suc p) d ∷ []) (sym next)

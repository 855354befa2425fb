-- Lists that are written one thing after another.
use Rattle.std.proofs.Common.{subst, ◌≡◌, ℕ, ◌+◌, ◌<◌, ◌≤◌, List, ◌++◌, length, take, drop, get_or, ap, sym, ◌∙◌, arith, append_assoc, length-append}
use Rattle.std.proofs.Common.{take-append-drop, drop-cons, add-one}
use Rattle.std.proofs.lemmas.Grind.{flat_map-append}
use Rattle.std.specs.Prelude.{flat_map}

-- there is room for the next thing
pub room-next : {A : Type 0} (s : A → List ℕ) (xs : List A) (i : ℕ) (d : A) (old out : List ℕ) (most : ℕ)
    → out ≡ old ++ flat_map s (take i xs) → i < length xs → length old + length (flat_map s xs) ≤ most → length out + length (s (get_or xs i d)) ≤ most
room-next s xs i d old out most e h fits =
    let split : flat_map s xs ≡ flat_map s (take i xs) ++ flat_map s (drop i xs) =
    ap (flat_map s) (sym (take-append-drop i xs)) ∙ flat_map-append s (take i xs) (drop i xs) in
    let next : flat_map s (drop i xs) ≡ s (get_or xs i d) ++ flat_map s (drop (i + 1) xs) =
    ap (flat_map s) (drop-cons xs i d h) ∙ ap (λ k. s (get_or xs i d) ++ flat_map s (drop k xs)) (sym (add-one i)) in
    let whole = ap length split ∙ length-append (flat_map s (take i xs)) (flat_map s (drop i xs)) in
    let rest = ap length next ∙ length-append (s (get_or xs i d)) (flat_map s (drop (i + 1) xs)) in
    let written = ap length e ∙ length-append old (flat_map s (take i xs)) in
    omega (arith, whole, rest, written)

pub room-item : {A : Type 0} (s : A → List ℕ) (xs : List A) (i : ℕ) (x : A) (old out : List ℕ) (most : ℕ)
    → x ≡ get_or xs i x → out ≡ old ++ flat_map s (take i xs) → i < length xs → length old + length (flat_map s xs) ≤ most → length out + length (s x) ≤ most
room-item s xs i x old out most is e h fits =
    subst (λ y. length out + length (s y) ≤ most) (sym is) (room-next s xs i x old out most e h fits)

-- four things were written one after another
pub wrote4 : (o o1 o2 o3 o4 a b c d : List ℕ) → o1 ≡ o ++ a → o2 ≡ o1 ++ b → o3 ≡ o2 ++ c → o4 ≡ o3 ++ d → o4 ≡ o ++ (a ++ b ++ c ++ d)
wrote4 o o1 o2 o3 o4 a b c d e1 e2 e3 e4 =
    let all : o4 ≡ (((o ++ a) ++ b) ++ c) ++ d = e4 ∙ ap (λ z. z ++ d) (e3 ∙ ap (λ z. z ++ c) (e2 ∙ ap (λ z. z ++ b) e1)) in
    let same : (((o ++ a) ++ b) ++ c) ++ d ≡ o ++ (((a ++ b) ++ c) ++ d) = simp append_assoc in
    all ∙ same

pub wrote2 : (o o1 o2 a b : List ℕ) → o1 ≡ o ++ a → o2 ≡ o1 ++ b → o2 ≡ o ++ (a ++ b)
wrote2 o o1 o2 a b e1 e2 = e2 ∙ ap (λ z. z ++ b) e1 ∙ append_assoc o a b

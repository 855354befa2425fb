-- What giving a front of bytes leaves.
use Rattle.std.proofs.Common.{◌≡◌, ℕ, ◌+◌, ◌-◌, ◌≤◌, List, ◌++◌, length, take, drop, sym, ap, ◌∙◌, subst, arith, append_assoc}
use Rattle.std.proofs.lemmas.List.{take_rest, take-append-drop, length-drop}
use Rattle.std.proofs.Math.Seq.{take-add}

-- giving a front of what is left to give
pub given_more : (before after new bytes : List ℕ) (done n : ℕ) → after ≡ before ++ take done bytes → new ≡ after
    ++ take n (take (length bytes - done) (drop done bytes)) → new ≡ before ++ take (done + n) bytes
given_more before after new bytes done n was now =
    let rest : take (length bytes - done) (drop done bytes) ≡ drop done bytes = take_rest bytes done in
    let now' : new ≡ (before ++ take done bytes) ++ take n (drop done bytes) =
    subst (λ a. new ≡ a ++ take n (drop done bytes)) was (subst (λ l. new ≡ after ++ take n l) rest now) in
    let joined : take (done + n) bytes ≡ take done bytes ++ take n (drop done bytes) = take-add done n bytes in
    now' ∙ (append_assoc before (take done bytes) (take n (drop done bytes)) ∙ ap (λ t. before ++ t) (sym joined))

-- what was given before a fault
pub given_front : (before after bytes : List ℕ) (done : ℕ) → after ≡ before ++ take done bytes → (lost : List ℕ)
    × ((after ++ lost ≡ before ++ bytes) × (length lost ≤ length bytes))
given_front before after bytes done was = (
  drop done bytes,
  (
    subst (λ a. a ++ drop done bytes ≡ before ++ bytes) (sym was) (append_assoc before (take done bytes) (drop done bytes)
        ∙ ap (λ t. before ++ t) (take-append-drop done bytes)),
    omega (arith, length-drop done bytes),
  ),
)

-- what was given when a give fails
pub given_lost : (before after new bytes : List ℕ) (done : ℕ) → after ≡ before ++ take done bytes → new ≡ after → (lost : List ℕ)
    × ((new ++ lost ≡ before ++ bytes) × (length lost ≤ length bytes))
given_lost before after new bytes done was now = given_front before new bytes done (now ∙ was)

-- a front of the rest ends within the whole
pub within_more : (bytes : List ℕ) (done n : ℕ) → done ≤ length bytes → n ≤ length (take (length bytes - done) (drop done bytes)) → done + n ≤ length bytes
within_more bytes done n within front =
    let rest = take_rest bytes done in
    let front' : n ≤ length (drop done bytes) = subst (λ l. n ≤ length l) rest front in
    omega (arith, length-drop done bytes, front')

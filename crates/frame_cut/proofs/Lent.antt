-- The body that a cutter lends, and what it holds afterwards.
use Rattle.std.proofs.Common.{◌≡◌, ℕ, ◌+◌, ◌-◌, ◌≤◌, List, ◌++◌, length, take, drop, sym, ap, ◌∙◌, subst, arith}
use Rattle.std.proofs.lemmas.List.{drop-drop, length-take-le, take_rest}
use Rattle.frame_cut.specs.Frames.{frame, IsBody}
use Rattle.frame_cut.proofs.Words.{length_behind}

-- a body at its place in the buffer, and what is held without its frame
lent_at : (xs : List ℕ) (s n : ℕ) → s ≤ length xs → n ≤ 1048576 → 4 + n ≤ length (drop s xs) → drop s xs ≡ frame (take n (drop 4 (drop s xs)))
    ++ drop (4 + n) (drop s xs)
    → (body : List ℕ) → body ≡ take n (drop (s + 4) xs)
    → (drop (s + 4 + n) xs ≡ drop (4 + length body) (drop s xs)) × (IsBody body × (drop s xs ≡ frame body ++ drop (4 + length body) (drop s xs)))
lent_at xs s n within fits enough whole body is =
    let rest : length (drop s xs) ≡ length xs - s = length_behind xs s within in
    let deep : length (drop (s + 4) xs) ≡ length xs - (s + 4) = length_behind xs (s + 4) (omega (arith, rest, enough, within)) in
    let count : length body ≡ n = ap length is ∙ length-take-le n (drop (s + 4) xs) (omega (arith, rest, enough, within, deep)) in
    let same : take n (drop 4 (drop s xs)) ≡ body = ap (take n) (drop-drop 4 s xs) ∙ sym is in
    let whole' : drop s xs ≡ frame body ++ drop (4 + n) (drop s xs) = subst (λ b. drop s xs ≡ frame b ++ drop (4 + n) (drop s xs)) same whole in
    let at : s + (4 + n) ≡ s + 4 + n = omega arith in
    let behind : drop (s + 4 + n) xs ≡ drop (4 + n) (drop s xs) = sym (drop-drop (4 + n) s xs ∙ ap (λ k. drop k xs) at) in (
      subst (λ k. drop (s + 4 + n) xs ≡ drop (4 + k) (drop s xs)) (sym count) behind,
      (
        omega (arith, count, fits),
        subst (λ k. drop s xs ≡ frame body ++ drop (4 + k) (drop s xs)) (sym count) whole',
      ),
    )

-- the same, as the code reads its buffer
pub lent : (xs first second held : List ℕ) (s n : ℕ) → first ≡ xs → second ≡ xs → drop s xs ≡ held → s ≤ length xs
    → n ≤ 1048576 → 4 + n ≤ length (take (length first - s) (drop s first)) → take (length first - s) (drop s first)
    ≡ frame (take n (drop 4 (take (length first - s) (drop s first)))) ++ drop (4 + n) (take (length first - s) (drop s first))
    → (drop (s + 4 + n) xs ≡ drop (4 + length (take (s + 4 + n - (s + 4)) (drop (s + 4) second))) held)
    × (IsBody (take (s + 4 + n - (s + 4)) (drop (s + 4) second))
    × (held ≡ frame (take (s + 4 + n - (s + 4)) (drop (s + 4) second)) ++ drop (4 + length (take (s + 4 + n - (s + 4)) (drop (s + 4) second))) held))
lent xs first second held s n is is' view within fits enough whole =
    let width : s + 4 + n - (s + 4) ≡ n = omega arith in
    let body : take (s + 4 + n - (s + 4)) (drop (s + 4) second) ≡ take n (drop (s + 4) xs) = ap (λ k. take k (drop (s + 4) second)) width
    ∙ ap (λ z. take n (drop (s + 4) z)) is' in
    let all : take (length first - s) (drop s first) ≡ drop s xs = subst (λ z. take (length z - s) (drop s z) ≡ drop s xs) (sym is) (take_rest xs s) in
    let enough' = subst (λ z. 4 + n ≤ length z) all enough in
    let whole' = subst (λ z. z ≡ frame (take n (drop 4 z)) ++ drop (4 + n) z) all whole in
    subst (λ h. (drop (s + 4 + n) xs ≡ drop (4 + length (take (s + 4 + n - (s + 4)) (drop (s + 4) second))) h)
    × (IsBody (take (s + 4 + n - (s + 4)) (drop (s + 4) second))
    × (h ≡ frame (take (s + 4 + n - (s + 4)) (drop (s + 4) second)) ++ drop (4 + length (take (s + 4 + n - (s + 4)) (drop (s + 4) second))) h))) view
    (lent_at xs s n within fits enough' whole' (take (s + 4 + n - (s + 4)) (drop (s + 4) second)) body)

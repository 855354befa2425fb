-- The line that a cutter lends, and what it holds afterwards.
use Rattle.std.proofs.Common.{◌≡◌, ℕ, ◌+◌, ◌-◌, ◌<◌, ◌≤◌, List, ◌++◌, length, take, drop, sym, ap, ◌∙◌, subst, arith}
use Rattle.std.proofs.lemmas.List.{take-take, drop-take, drop-drop, length-take-le, length-drop}
use Rattle.line_cut.specs.Lines.{ended, IsLine}

-- what is behind a part
behind : (xs : List ℕ) (s e m : ℕ) → s ≤ e → m ≤ e - s → take (e - (s + m)) (drop (s + m) xs) ≡ drop m (take (e - s) (drop s xs))
behind xs s e m order room =
    let split : e - s ≡ m + (e - (s + m)) = omega arith in
    let inner : drop m (take (e - s) (drop s xs)) ≡ take (e - (s + m)) (drop m (drop s xs)) =
    subst (λ k. drop m (take k (drop s xs)) ≡ take (e - (s + m)) (drop m (drop s xs))) (sym split) (drop-take m (e - (s + m)) (drop s xs)) in
    sym (inner ∙ ap (take (e - (s + m))) (drop-drop m s xs))

-- the line at its place in the buffer, and what is held without it and its line feed
lent_at : (xs : List ℕ) (s e n : ℕ) → s ≤ e → e ≤ length xs → n < length (take (e - s) (drop s xs)) → IsLine (take n (take (e - s) (drop s xs)))
    → take (e - s) (drop s xs) ≡ ended (take n (take (e - s) (drop s xs))) ++ drop (n + 1) (take (e - s) (drop s xs))
    → (line : List ℕ) → line ≡ take n (drop s xs)
    → (take (e - (s + n + 1)) (drop (s + n + 1) xs) ≡ drop (length line + 1) (take (e - s) (drop s xs)))
    × (IsLine line × (take (e - s) (drop s xs) ≡ ended line ++ drop (length line + 1) (take (e - s) (drop s xs))))
lent_at xs s e n order within room is whole line here =
    let rest : length (drop s xs) ≡ length xs - s = length-drop s xs in
    let all : length (take (e - s) (drop s xs)) ≡ e - s = length-take-le (e - s) (drop s xs) (omega arith) in
    let same : take n (take (e - s) (drop s xs)) ≡ line = take-take n (e - s) (drop s xs) (omega arith) ∙ sym here in
    let count : length line ≡ n = ap length (sym same) ∙ length-take-le n (take (e - s) (drop s xs)) (omega arith) in
    let place : s + n + 1 ≡ s + (n + 1) = omega arith in
    let left : take (e - (s + n + 1)) (drop (s + n + 1) xs) ≡ drop (n + 1) (take (e - s) (drop s xs)) =
    ap (λ k. take (e - k) (drop k xs)) place ∙ behind xs s e (n + 1) order (omega arith) in (
      subst (λ k. take (e - (s + n + 1)) (drop (s + n + 1) xs) ≡ drop (k + 1) (take (e - s) (drop s xs))) (sym count) left,
      (
        subst IsLine same is,
        subst (λ k. take (e - s) (drop s xs) ≡ ended line ++ drop (k + 1) (take (e - s) (drop s xs))) (sym count)
            (subst (λ l. take (e - s) (drop s xs) ≡ ended l ++ drop (n + 1) (take (e - s) (drop s xs))) same whole),
      ),
    )

-- the same, as the code reads its buffer
pub lent : (xs first second held : List ℕ) (s e n : ℕ) → first ≡ xs → second ≡ xs → take (e - s) (drop s xs) ≡ held → s ≤ e → e ≤ length xs
    → IsLine (take n (take (e - s) (drop s first))) → n < length (take (e - s) (drop s first)) → take (e - s) (drop s first)
    ≡ ended (take n (take (e - s) (drop s first))) ++ drop (n + 1) (take (e - s) (drop s first))
    → (take (e - (s + n + 1)) (drop (s + n + 1) xs) ≡ drop (length (take (s + n - s) (drop s second)) + 1) held)
    × (IsLine (take (s + n - s) (drop s second)) × (held ≡ ended (take (s + n - s) (drop s second))
    ++ drop (length (take (s + n - s) (drop s second)) + 1) held))
lent xs first second held s e n is is' view order within fits enough whole =
    let width : s + n - s ≡ n = omega arith in
    let line : take (s + n - s) (drop s second) ≡ take n (drop s xs) = ap (λ k. take k (drop s second)) width ∙ ap (λ z. take n (drop s z)) is' in
    let fits' = subst (λ z. IsLine (take n (take (e - s) (drop s z)))) is fits in
    let enough' = subst (λ z. n < length (take (e - s) (drop s z))) is enough in
    let whole' = subst (λ z. take (e - s) (drop s z) ≡ ended (take n (take (e - s) (drop s z))) ++ drop (n + 1) (take (e - s) (drop s z))) is whole in
    subst (λ h. (take (e - (s + n + 1)) (drop (s + n + 1) xs) ≡ drop (length (take (s + n - s) (drop s second)) + 1) h)
    × (IsLine (take (s + n - s) (drop s second)) × (h ≡ ended (take (s + n - s) (drop s second))
    ++ drop (length (take (s + n - s) (drop s second)) + 1) h))) view
    (lent_at xs s e n order within enough' fits' whole' (take (s + n - s) (drop s second)) line)

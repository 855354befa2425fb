-- The entry at a place, by the bytes that were read there.
use Rattle.std.proofs.Common.{◌≡◌, ◌≢◌, ◌⊎◌, inl, inr, ℕ, ◌+◌, ◌<◌, ◌≤◌, ◌^◌, List, [], ◌∷◌, ◌++◌, length, take, drop, get_or, sym, ap, ◌∙◌, subst}
use Rattle.std.proofs.Common.{arith, append_assoc, length-drop, length-take-le, take-append-drop}
use Rattle.std.specs.Int.{w32, to_be_bytes, from_be_bytes}
use Rattle.std.proofs.lemmas.Nat.{from_be_bytes-to_be_bytes_4}
use Rattle.std.proofs.lemmas.List.{drop-drop, drop_more}
use Rattle.frame_cut.specs.Frames.{frame, word}
use Rattle.site_journal.specs.Texts.{IsEntry}
use Rattle.site_journal.proofs.Texts.{not_one}
use Rattle.tardis_base.specs.Sizes.{longest_frame}
use Rattle.site_journal.proofs.Readings.{none_by_word}

-- bytes whose first four are the length word of a frame
whole_of : (tail head : List ℕ) (n : ℕ) → head ≡ take 4 tail → to_be_bytes w32 n ≡ head → 4 + n ≤ length tail → tail ≡ frame (take n (drop 4 tail))
    ++ drop (4 + n) tail
unfolding frame
whole_of tail head n is first enough =
    let count : length (take n (drop 4 tail)) ≡ n = length-take-le n (drop 4 tail) (omega (arith, length-drop 4 tail, enough)) in
    let front : to_be_bytes w32 (length (take n (drop 4 tail))) ≡ take 4 tail = ap (to_be_bytes w32) count ∙ (first ∙ is) in
    let joined : take n (drop 4 tail) ++ drop (4 + n) tail ≡ drop 4 tail = subst (λ r. take n (drop 4 tail) ++ r ≡ drop 4 tail) (drop-drop n 4 tail)
    (take-append-drop n (drop 4 tail)) in
    sym (append_assoc (to_be_bytes w32 (length (take n (drop 4 tail)))) (take n (drop 4 tail)) (drop (4 + n) tail)
    ∙ (ap (λ h. h ++ (take n (drop 4 tail) ++ drop (4 + n) tail)) front
    ∙ (ap (λ r. take 4 tail ++ r) joined
    ∙ take-append-drop 4 tail)))

-- the byte at the place, and those behind it
marked_by : (all mark : List ℕ) (place : ℕ) → mark ≡ take 1 (drop place all) → place < length all → drop place all ≡ get_or mark 0 0 ∷ drop (place + 1) all
marked_by all mark place is within =
    let first = drop_more all place 0 within in
    let says : get_or mark 0 0 ≡ get_or all place 0 = ap (λ z. get_or z 0 0) (is ∙ ap (take 1) first) in
    first ∙ ap (λ x. x ∷ drop (place + 1) all) (sym says)

word_by : (tail head : List ℕ) (n : ℕ) → head ≡ take 4 tail → to_be_bytes w32 n ≡ head → n < 2 ^ 32 → word tail ≡ n
unfolding word
word_by tail head n is says small = ap (from_be_bytes w32) (sym is ∙ sym says) ∙ from_be_bytes-to_be_bytes_4 n small

-- an entry stands there
pub next_is : (all mark head body : List ℕ) (place count : ℕ) → mark ≡ take 1 (drop place all) → head ≡ take 4 (drop (place + 1) all) →
    to_be_bytes w32 count ≡ head → get_or mark 0 0 ≡ 1
    → place + 5 + count < length all → body ≡ take count (drop (place + 5) all) → drop place all ≡ 1 ∷ (frame body ++ drop (5 + count) (drop place all))
next_is all mark head body place count is is' says one enough read =
    let tail : List ℕ = drop (place + 1) all in
    let whole = whole_of tail head count is' says (omega (arith, length-drop (place + 1) all, enough)) in
    let at : place + 1 + 4 ≡ place + 5 = omega arith in
    let inner : take count (drop 4 tail) ≡ body = ap (take count) (drop-drop 4 (place + 1) all ∙ ap (λ k. drop k all) at) ∙ sym read in
    let far : place + 1 + (4 + count) ≡ place + (5 + count) = omega arith in
    let rest : drop (4 + count) tail ≡ drop (5 + count) (drop place all) = drop-drop (4 + count) (place + 1) all
    ∙ (ap (λ k. drop k all) far ∙ sym (drop-drop (5 + count) place all)) in
    marked_by all mark place is (omega (arith, enough)) ∙ ((λ i. one i ∷ whole i) ∙ (λ i. 1 ∷ (frame (inner i) ++ rest i)))

-- none stands there
none_at : (bytes : List ℕ) (gate : ℕ) (tail : List ℕ) → bytes ≡ gate ∷ tail →
    ((entry more : List ℕ) → gate ∷ tail ≡ 1 ∷ (frame entry ++ more) → IsEntry entry → more ≡ []) → (entry more : List ℕ) → bytes ≡ 1
    ∷ (frame entry ++ more) → IsEntry entry → more ≡ []
none_at bytes gate tail is none entry more stands fits = none entry more (sym is ∙ stands) fits

pub none_by_mark : (all mark : List ℕ) (place : ℕ) → mark ≡ take 1 (drop place all) → place < length all → get_or mark 0 0 ≢ 1 → (entry more : List ℕ) →
    drop place all ≡ 1 ∷ (frame entry ++ more) → IsEntry entry → more ≡ []
none_by_mark all mark place is within shut = none_at (drop place all) (get_or mark 0 0) (drop (place + 1) all) (marked_by all mark place is within)
    (λ entry more stands fits. not_one (get_or mark 0 0) (drop (place + 1) all) entry more shut stands)

pub none_by_head : (all mark head : List ℕ) (place count : ℕ) → mark ≡ take 1 (drop place all) → head ≡ take 4 (drop (place + 1) all) →
    to_be_bytes w32 count ≡ head → count < 2 ^ 32 → place < length all
    → (length all ≤ place + 5 + count) ⊎ ((count < 2) ⊎ (longest_frame < count)) → (entry more : List ℕ) → drop place all ≡ 1 ∷ (frame entry ++ more) →
    IsEntry entry → more ≡ []
none_by_head all mark head place count is is' says small within why =
    let tail : List ℕ = drop (place + 1) all in
    let w : word tail ≡ count = word_by tail head count is' says small in
    let why' : (length tail ≤ 4 + word tail) ⊎ ((word tail < 2) ⊎ (longest_frame < word tail)) = elim why [
      | inl few ↦ inl (omega (arith, length-drop (place + 1) all, few, w))
      | inr odd ↦ elim odd [ inl small ↦ inr (inl (omega (arith, small, w))) | inr large ↦ inr (inr (omega (arith, large, w))) ]
    ] in
    none_at (drop place all) (get_or mark 0 0) tail (marked_by all mark place is within) (none_by_word (get_or mark 0 0) tail why')

-- Bytes without a line feed.
use Rattle.std.proofs.Common.{◌≡◌, ◌≢◌, ℕ, ◌+◌, ◌<◌, List, [], ◌∷◌, ◌++◌, length, take, drop, get_or, refl, sym, ap, ◌∙◌, inl, inr}
use Rattle.std.proofs.Common.{arith}
use Rattle.std.proofs.lemmas.List.{length-append, get_or-take}
use Rattle.std.proofs.Math.ListN.{get_or-append}
use Rattle.line_cut.specs.Lines.{HasNoFeed, IsLine, IsLong, IsEnd, ended}

-- a place in a front is one of the whole
pub in_front : (n : ℕ) (xs : List ℕ) (place : ℕ) → place < length (take n xs) → (place < n) × (place < length xs)
in_front ℕ.zero xs place below = absurd (omega (arith, below))
in_front (ℕ.suc n) [] place below = absurd (omega (arith, below))
in_front (ℕ.suc n) (x ∷ xs) ℕ.zero below = (omega arith, omega arith)
in_front (ℕ.suc n) (x ∷ xs) (ℕ.suc place) below = let rest = in_front n xs place (omega (arith, below)) in (omega (arith, rest.0), omega (arith, rest.1))

-- where none of the first places holds a line feed, the front has none
pub front_free : (n : ℕ) (xs : List ℕ) → ((place : ℕ) → place < n → place < length xs → get_or xs place 0 ≢ 10) → HasNoFeed (take n xs)
front_free n xs free place below is =
    let both = in_front n xs place below in
    free place both.0 both.1 (sym (get_or-take n xs place 0 both.0) ∙ is)

-- bytes are those before a line feed, the line feed, and the others
feed_before : (k m : ℕ) (xs : List ℕ) → m ≡ k + 1 → k < length xs → get_or xs k 0 ≡ 10 → xs ≡ ended (take k xs) ++ drop m xs
unfolding ended
feed_before k m [] next below is = absurd (omega (arith, below))
feed_before k ℕ.zero (x ∷ xs) next below is = absurd (omega (arith, next))
feed_before ℕ.zero (ℕ.suc ℕ.zero) (x ∷ xs) next below is = ap (λ y. y ∷ xs) is
feed_before ℕ.zero (ℕ.suc (ℕ.suc m)) (x ∷ xs) next below is = absurd (omega (arith, next))
feed_before (ℕ.suc k) (ℕ.suc m) (x ∷ xs) next below is = ap (λ ys. x ∷ ys) (feed_before k m xs (omega (arith, next)) (omega (arith, below)) is)

pub at_feed : (k : ℕ) (xs : List ℕ) → k < length xs → get_or xs k 0 ≡ 10 → xs ≡ ended (take k xs) ++ drop (k + 1) xs
at_feed k xs below is = feed_before k (k + 1) xs refl below is

-- the line feed stands behind the line
pub feed_at : (line rest : List ℕ) → get_or (ended line ++ rest) (length line) 0 ≡ 10
unfolding ended
feed_at [] rest = refl
feed_at (x ∷ line) rest = feed_at line rest

pub length-ended : (line rest : List ℕ) → length (ended line ++ rest) ≡ length line + 1 + length rest
unfolding ended
length-ended line rest = length-append (line ++ 10 ∷ []) rest ∙ ap (λ n. n + length rest) (length-append line (10 ∷ []))

-- where a line and its line feed stand, bytes don't end
pub not_end : (line rest : List ℕ) → IsLine line → IsEnd (ended line ++ rest) → ⊥
not_end line rest is ends =
    let size = length-ended line rest in
    elim ends [
      | inl free ↦ free.0 (length line) (omega (arith, size)) (feed_at line rest)
      | inr long ↦ long.1 (length line) is.1 (feed_at line rest)
    ]

tail_free : (x : ℕ) (xs : List ℕ) → HasNoFeed (x ∷ xs) → HasNoFeed xs
tail_free x xs free place below = free (ℕ.suc place) (omega (arith, below))

-- two lines at the front of the same bytes are one
pub same_line : (line other rest left : List ℕ) → HasNoFeed line → HasNoFeed other → ended line ++ rest ≡ ended other ++ left → (line ≡ other) × (rest ≡ left)
unfolding ended
same_line [] [] rest left p q same = (refl, ap (drop 1) same)
same_line [] (y ∷ other) rest left p q same = absurd (q 0 (omega arith) (sym (ap (λ l. get_or l 0 0) same)))
same_line (x ∷ line) [] rest left p q same = absurd (p 0 (omega arith) (ap (λ l. get_or l 0 0) same))
same_line (x ∷ line) (y ∷ other) rest left p q same =
    let first : x ≡ y = ap (λ l. get_or l 0 0) same in
    let more = same_line line other rest left (tail_free x line p) (tail_free y other q) (ap (drop 1) same) in
    (λ i. first i ∷ more.0 i, more.1)

-- a line that is too long stays so when more bytes come
pub long_more : (bytes more : List ℕ) → IsLong bytes → IsLong (bytes ++ more)
long_more bytes more long = (
  omega (arith, length-append bytes more, long.0),
  λ place within is. long.1 place within
      (sym (get_or-append bytes more 0 place (omega (arith, long.0, within))) ∙ is),
)

-- What moving a front of bytes leaves.
use Rattle.std.proofs.Common.{◌≡◌, ℕ, ◌+◌, ◌-◌, ◌<◌, ◌≤◌, List, [], ◌++◌, length, take, drop, min, sym, subst, arith}
use Rattle.std.proofs.lemmas.List.{take_rest, take_at, take-append-drop, drop-drop, length-take-le, nil_from_length}

-- a front moved into a buffer, and what is left behind it
pub moved : (left buf after : List ℕ) (n most : ℕ) → n ≡ min most (min (length buf) (length left)) → after ≡ take n left ++ drop n buf → 0 < most →
    0 < length buf → (left ≡ take n after ++ drop n left) × (n ≡ 0 → left ≡ [])
moved left buf after n most count front some room =
    let within : n ≤ length left = omega arith in
    let full : length (take n left) ≡ n = length-take-le n left within in
    let head : take n (take n left ++ drop n buf) ≡ take n left = take_at (take n left) (drop n buf) n full in
    let whole : take n left ++ drop n left ≡ left = take-append-drop n left in (
      subst (λ a. left ≡ take n a ++ drop n left) (sym front) (subst (λ t. left ≡ t ++ drop n left) (sym head) (sym whole)),
      λ z. nil_from_length left (omega arith),
    )

-- the same over the bytes that a source keeps, of which `at` were taken
pub moved_at : (bytes : List ℕ) (at : ℕ) (buf after : List ℕ) (n most : ℕ) →
    n ≡ min most (min (length buf) (length (take (length bytes - at) (drop at bytes)))) → after ≡ take n (take (length bytes - at) (drop at bytes))
    ++ drop n buf → 0 < most → 0 < length buf → (drop at bytes ≡ take n after ++ drop (at + n) bytes) × (n ≡ 0 → drop at bytes ≡ [])
moved_at bytes at buf after n most count front some room =
    let rest : take (length bytes - at) (drop at bytes) ≡ drop at bytes = take_rest bytes at in
    let count' : n ≡ min most (min (length buf) (length (drop at bytes))) = subst (λ l. n ≡ min most (min (length buf) (length l))) rest count in
    let front' : after ≡ take n (drop at bytes) ++ drop n buf = subst (λ l. after ≡ take n l ++ drop n buf) rest front in
    let both = moved (drop at bytes) buf after n most count' front' some room in
    (subst (λ d. drop at bytes ≡ take n after ++ d) (drop-drop n at bytes) both.0, both.1)

-- the same through what a read of the bytes lends
pub moved_under : (bytes lent : List ℕ) (at : ℕ) (buf after : List ℕ) (n most : ℕ) → lent ≡ bytes →
    n ≡ min most (min (length buf) (length (take (length lent - at) (drop at lent)))) → after ≡ take n (take (length lent - at) (drop at lent))
    ++ drop n buf → 0 < most → 0 < length buf → (drop at bytes ≡ take n after ++ drop (at + n) bytes) × (n ≡ 0 → drop at bytes ≡ [])
moved_under bytes lent at buf after n most is count front some room =
    subst (λ b. (drop at b ≡ take n after ++ drop (at + n) b) × (n ≡ 0 → drop at b ≡ [])) is (moved_at lent at buf after n most count front some room)

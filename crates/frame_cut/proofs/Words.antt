-- Length words and frames.
use Rattle.std.proofs.Common.{◌≡◌, ℕ, ◌+◌, ◌-◌, ◌<◌, ◌≤◌, List, ◌++◌, length, take, drop, get_or, sym, ap, ◌∙◌, subst, inl, inr, arith, append_assoc}
use Rattle.std.specs.Int.{w32, to_be_bytes, from_be_bytes}
use Rattle.std.proofs.lemmas.Bool.{cases_lt}
use Rattle.std.proofs.lemmas.Nat.{be_bytes_4, from_be_bytes-to_be_bytes_4}
use Rattle.std.proofs.lemmas.List.{take_at, drop_at, take-append-drop, take-append-le, drop-drop, length-take-le, length-append, get_or-take, get_or-drop}
use Rattle.std.proofs.lemmas.List.{get_or_past}
use Rattle.frame_cut.specs.Frames.{frame, word, IsBody, IsLong}

-- a frame has four bytes more than its body
pub length-frame : (body : List ℕ) → length (frame body) ≡ 4 + length body
unfolding frame
length-frame body = length-append (to_be_bytes w32 (length body)) body

-- the length word of a frame is its body's length
pub word-frame : (body rest : List ℕ) → IsBody body → word (frame body ++ rest) ≡ length body
unfolding frame word
word-frame body rest fits = from_be_bytes-to_be_bytes_4 (length body) (omega (arith, fits))

-- the bytes of a front and of a rest are bytes
pub small_front : (bytes : List ℕ) (n : ℕ) → ((i : ℕ) → get_or bytes i 0 < 256) → n ≤ length bytes → (i : ℕ) → get_or (take n bytes) i 0 < 256
small_front bytes n small within i =
    elim (cases_lt i n) [
      | inl below ↦ subst (λ k. k < 256) (sym (get_or-take n bytes i 0 below)) (small i)
      | inr past ↦ let none : get_or (take n bytes) i 0 ≡ 0 = get_or_past (take n bytes) i 0 (omega (arith, length-take-le n bytes within)) in
          omega (arith, none)
    ]

pub small_rest : (bytes : List ℕ) (n : ℕ) → ((i : ℕ) → get_or bytes i 0 < 256) → (i : ℕ) → get_or (drop n bytes) i 0 < 256
small_rest bytes n small i = subst (λ k. k < 256) (sym (get_or-drop n bytes i 0)) (small (n + i))

-- what is behind the length word
pub length_behind : (bytes : List ℕ) (n : ℕ) → n ≤ length bytes → length (drop n bytes) ≡ length bytes - n
length_behind bytes n within =
    let whole : length (take n bytes ++ drop n bytes) ≡ length bytes = ap length (take-append-drop n bytes) in
    let parts : length (take n bytes ++ drop n bytes) ≡ length (take n bytes) + length (drop n bytes) = length-append (take n bytes) (drop n bytes) in
    let front : length (take n bytes) ≡ n = length-take-le n bytes within in
    omega arith

-- bytes with a whole frame at the front are that frame and the rest
pub whole_frame : (bytes : List ℕ) (n : ℕ) → ((i : ℕ) → get_or bytes i 0 < 256) → word bytes ≡ n → 4 + n ≤ length bytes →
    bytes ≡ frame (take n (drop 4 bytes)) ++ drop (4 + n) bytes
unfolding frame word
whole_frame bytes n small says enough =
    let four : length (take 4 bytes) ≡ 4 = length-take-le 4 bytes (omega arith) in
    let head : to_be_bytes w32 n ≡ take 4 bytes = be_bytes_4 (take 4 bytes) n four (small_front bytes 4 small (omega arith)) (sym says) in
    let behind : length (drop 4 bytes) ≡ length bytes - 4 = length_behind bytes 4 (omega arith) in
    let count : length (take n (drop 4 bytes)) ≡ n = length-take-le n (drop 4 bytes) (omega arith) in
    let head' : to_be_bytes w32 (length (take n (drop 4 bytes))) ≡ take 4 bytes = ap (to_be_bytes w32) count ∙ head in
    let rest : drop n (drop 4 bytes) ≡ drop (4 + n) bytes = drop-drop n 4 bytes in
    let joined : take n (drop 4 bytes) ++ drop (4 + n) bytes ≡ drop 4 bytes =
    subst (λ r. take n (drop 4 bytes) ++ r ≡ drop 4 bytes) rest (take-append-drop n (drop 4 bytes)) in
    sym (append_assoc (to_be_bytes w32 (length (take n (drop 4 bytes)))) (take n (drop 4 bytes)) (drop (4 + n) bytes)
    ∙ (ap (λ h. h ++ (take n (drop 4 bytes) ++ drop (4 + n) bytes)) head'
    ∙ (ap (λ r. take 4 bytes ++ r) joined
    ∙ take-append-drop 4 bytes)))

-- two frames at the front of the same bytes are one
pub same_frame : (body other rest left : List ℕ) → IsBody body → IsBody other → frame body ++ rest ≡ frame other ++ left → (body ≡ other) × (rest ≡ left)
unfolding frame
same_frame body other rest left fits fits' same =
    let counts : length body ≡ length other = sym (word-frame body rest fits) ∙ (ap word same ∙ word-frame other left fits') in
    let long : length (frame body) ≡ 4 + length other = length-frame body ∙ ap (λ n. 4 + n) counts in
    let fronts : frame body ≡ frame other = sym (take_at (frame body) rest (4 + length other) long)
    ∙ (ap (take (4 + length other)) same ∙ take_at (frame other) left (4 + length other) (length-frame other)) in
    let rests : rest ≡ left = sym (drop_at (frame body) rest (4 + length other) long)
    ∙ (ap (drop (4 + length other)) same ∙ drop_at (frame other) left (4 + length other) (length-frame other)) in
    (ap (drop 4) fronts, rests)

-- a length word that is too large stays so when more bytes come
pub long_more : (bytes more : List ℕ) (len : ℕ) → IsLong bytes len → IsLong (bytes ++ more) len
unfolding word
long_more bytes more len long =
    let front : take 4 (bytes ++ more) ≡ take 4 bytes = take-append-le 4 bytes more long.0 in
    (omega (arith, length-append bytes more, long.0), subst (λ t. from_be_bytes w32 t ≡ len) (sym front) long.1, long.2)

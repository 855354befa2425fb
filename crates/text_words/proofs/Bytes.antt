-- Tests of each byte of a list.
use Rattle.std.proofs.Common.{◌≡◌, ℕ, suc, ◌<◌, ◌≤◌, Bool, not, ◌==◌, IsTrue, List, [], ◌∷◌, nat_le, nat_lt, ap, refl, arith, ltb-true, lt-ltb, leb-true}
use Rattle.std.proofs.Common.{le-leb, ne_eqb}
use Rattle.std.proofs.lemmas.Bool.{and_parts, and_from}
use Rattle.std.specs.List.{list_all}
use Rattle.hex.specs.Hex.{IsBytes}
use Rattle.tardis_base.specs.Valid.{are_bytes, is_within}
use Rattle.text_words.specs.Words.{are_printed}

-- the byte is not among these
abbrev pub lacks : ℕ → List ℕ → Bool
lacks c bytes = list_all (λ x. not (x == c)) bytes

pub all-weaker : (p q : ℕ → Bool) → ((x : ℕ) → IsTrue (p x) → IsTrue (q x)) → (xs : List ℕ) → IsTrue (list_all p xs) → IsTrue (list_all q xs)
all-weaker p q f [] h = refl
all-weaker p q f (x ∷ xs) h =
    let parts = and_parts (p x) (list_all p xs) h in
    and_from (q x) (list_all q xs) (f x parts.0) (all-weaker p q f xs parts.1)

pub within-parts : (least most x : ℕ) → IsTrue (is_within least most x) → (least ≤ x) × (x ≤ most)
within-parts least most x h =
    let parts = and_parts (nat_le least x) (nat_le x most) h in
    (leb-true least x parts.0, leb-true x most parts.1)

pub other-byte : (x c : ℕ) → (x ≡ c → ⊥) → IsTrue (not (x == c))
other-byte x c h = ap not (ne_eqb x c h)

-- a byte below others, or above them, is not among them
pub lacks-below : (least most c : ℕ) → c < least → (xs : List ℕ) → IsTrue (list_all (λ x. is_within least most x) xs) → IsTrue (lacks c xs)
lacks-below least most c h xs each =
    all-weaker (λ x. is_within least most x) (λ x. not (x == c)) (λ x t. let p = within-parts least most x t in other-byte x c (λ e. omega arith)) xs each

pub lacks-above : (least most c : ℕ) → most < c → (xs : List ℕ) → IsTrue (list_all (λ x. is_within least most x) xs) → IsTrue (lacks c xs)
lacks-above least most c h xs each =
    all-weaker (λ x. is_within least most x) (λ x. not (x == c)) (λ x t. let p = within-parts least most x t in other-byte x c (λ e. omega arith)) xs each

-- bytes within narrower bounds are within wider ones
pub all-within : (a b c d : ℕ) → c ≤ a → b ≤ d → (xs : List ℕ) → IsTrue (list_all (λ x. is_within a b x) xs) → IsTrue (list_all (λ x. is_within c d x) xs)
all-within a b c d from to xs each =
    all-weaker (λ x. is_within a b x) (λ x. is_within c d x)
    (λ x t. let p = within-parts a b x t in and_from (nat_le c x) (nat_le x d) (le-leb c x (omega arith)) (le-leb x d (omega arith))) xs each

pub printed-lacks-space : (xs : List ℕ) → IsTrue (are_printed xs) → IsTrue (lacks 32 xs)
printed-lacks-space xs h = lacks-below 33 126 32 (omega arith) xs h

pub within-bytes : (least most : ℕ) → most < 256 → (xs : List ℕ) → IsTrue (list_all (λ x. is_within least most x) xs) → IsTrue (are_bytes xs)
within-bytes least most h xs each =
    all-weaker (λ x. is_within least most x) (λ x. nat_lt x 256) (λ x t. let p = within-parts least most x t in lt-ltb x 256 (omega arith)) xs each

-- the test of bytes as the hexadecimal library has it
pub bytes-below : (xs : List ℕ) → IsTrue (are_bytes xs) → IsBytes xs
bytes-below [] h i = omega arith
bytes-below (x ∷ xs) h ℕ.zero = ltb-true x 256 (and_parts (nat_lt x 256) (are_bytes xs) h).0
bytes-below (x ∷ xs) h (ℕ.suc i) = bytes-below xs (and_parts (nat_lt x 256) (are_bytes xs) h).1 i

pub below-bytes : (xs : List ℕ) → IsBytes xs → IsTrue (are_bytes xs)
below-bytes [] h = refl
below-bytes (x ∷ xs) h = and_from (nat_lt x 256) (are_bytes xs) (lt-ltb x 256 (h 0)) (below-bytes xs (λ i. h (suc i)))

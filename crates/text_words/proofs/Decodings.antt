-- Lower-case hexadecimal digits, and the bytes that they stand for.
use Rattle.std.proofs.Common.{◌≡◌, ℕ, zero, suc, ◌+◌, ◌-◌, ◌*◌, ◌/◌, ◌%◌, ◌<◌, ◌≤◌, Bool, true, false, not, ◌==◌, ◌&&◌, IsTrue, inl, inr, List, [], ◌∷◌, ◌++◌}
use Rattle.std.proofs.Common.{length, take, drop, slice_index, nat_le, nat_lt, Option, Some, None, Result, Ok, Err, ap, ap₂, sym, ◌∙◌, subst, refl, arith}
use Rattle.std.proofs.Common.{if◌then◌else◌, unwrap_or, eqb-true, ltb-true, lt-ltb, leb-true, le-leb}
use Rattle.std.proofs.Math.Seq.{take-append_seam}
use Rattle.std.proofs.lemmas.Bool.{and_parts, and_from, cases_lt, not-true}
use Rattle.std.proofs.lemmas.Slice.Eq.{bytes_eq-Decides}
use Rattle.std.specs.Bool.{then_some}
use Rattle.std.specs.List.{list_all}
use Rattle.std.specs.Prelude.{MatchResult}
use Rattle.std.specs.Result.{result_unwrap_or}
use Rattle.hex.specs.Hex.{decode_of, decode_pairs, decode_sized, encode_with, hex_digit_value, lower_digits, pair_value, digit_or_error, ◌>>=◌}
use Rattle.hex.specs.declared.error.FromHexError.{FromHexError}
use Rattle.hex.proofs.HexLemmas.{length-encode_with, decode_of-even, decode_sized-twice}
use Rattle.tardis_base.specs.Valid.{is_within, are_bytes}
use Rattle.text_words.specs.Words.{Word, hex_word}
use Rattle.text_words.specs.Texts.{hex_bytes, bytes_from}
use Rattle.text_words.specs.Decodings.{IsDecoded}
use Rattle.text_words.proofs.Bytes.{within-parts}
use Rattle.text_words.proofs.WordsRead.{hex-only}

-- ---- digits

glyph_of : ℕ → ℕ
glyph_of v = if nat_lt v 10 then v + 48 else v + 87

abbrev are_lower : ℕ → Bool
are_lower zero = true
are_lower (suc n) = (slice_index lower_digits n == (if nat_lt n 10 then n + 48 else n + 87)) && are_lower n

lower-at : (n k : ℕ) → are_lower n ≡ true → k < n → slice_index lower_digits k ≡ (if nat_lt k 10 then k + 48 else k + 87)
lower-at zero k h lt = absurd (omega (arith, lt))
lower-at (suc n) k h lt =
    let parts = and_parts (slice_index lower_digits n == (if nat_lt n 10 then n + 48 else n + 87)) (are_lower n) h in
    elim (cases_lt k n) [
      | inl below ↦ lower-at n k parts.1 below
      | inr top ↦
          let e : n ≡ k = omega (arith, lt, top) in
          subst (λ z. slice_index lower_digits z ≡ (if nat_lt z 10 then z + 48 else z + 87)) e
          (eqb-true (slice_index lower_digits n) (if nat_lt n 10 then n + 48 else n + 87) parts.0)
    ]

lower : (d : ℕ) → d < 16 → slice_index lower_digits d ≡ (if nat_lt d 10 then d + 48 else d + 87)
lower d h = lower-at 16 d refl h

lower-low : (d : ℕ) → d < 10 → slice_index lower_digits d ≡ d + 48
lower-low d h = lower d (omega (arith, h)) ∙ ap (λ t. if t then d + 48 else d + 87) (lt-ltb d 10 h)

lower-high : (d : ℕ) → 10 ≤ d → d < 16 → slice_index lower_digits d ≡ d + 87
lower-high d low h = lower d h ∙ ap (λ t. if t then d + 48 else d + 87) (Rattle.std.proofs.lemmas.Bool.le-ltb d 10 low)

abbrev no_upper : ℕ → Bool
no_upper b = not (is_within 65 70 b)

glyph-lower : (d : ℕ) → d < 16 → IsTrue (no_upper (slice_index lower_digits d))
glyph-lower d h =
    elim (cases_lt d 10) [
      | inl low ↦ ap (λ z. no_upper z) (lower-low d low) ∙ outside (d + 48) (λ a b. omega (arith, a, low))
      | inr high ↦ ap (λ z. no_upper z) (lower-high d (omega (arith, high)) h) ∙ outside (d + 87) (λ a b. omega (arith, b, high))
    ]
  where
    outside : (b : ℕ) → (65 ≤ b → b ≤ 70 → ⊥) → no_upper b ≡ true
    outside b h = go (is_within 65 70 b) refl
      where
        go : (t : Bool) → is_within 65 70 b ≡ t → no_upper b ≡ true
        go true is = let p = within-parts 65 70 b is in absurd (h p.0 p.1)
        go false is = ap not is

hex-lower : (bs : List ℕ) → IsTrue (are_bytes bs) → IsTrue (list_all (λ b. not (is_within 65 70 b)) (encode_with lower_digits bs))
unfolding encode_with
hex-lower [] h = refl
hex-lower (b ∷ bs) h =
    let parts = and_parts (nat_lt b 256) (are_bytes bs) h in
    let small = ltb-true b 256 parts.0 in
    let rest : Bool = list_all (λ b. not (is_within 65 70 b)) (encode_with lower_digits bs) in
    and_from (no_upper (slice_index lower_digits (b / 16))) (no_upper (slice_index lower_digits (b % 16)) && rest) (glyph-lower (b / 16) (omega (arith, small)))
    (and_from (no_upper (slice_index lower_digits (b % 16))) rest (glyph-lower (b % 16) (omega arith)) (hex-lower bs parts.1))

-- ---- a digit is written as it was read

digit-back : (c v : ℕ) → IsTrue (no_upper c) → hex_digit_value c ≡ Some v → (v < 16) × (slice_index lower_digits v ≡ c)
digit-back c v upper e = first (nat_le 65 c && nat_le c 70) refl e
  where
    none : {P : Type 0} → ◌≡◌ {A = Option ℕ} None (Some v) → P
    none e = absurd (cc)

    small : (n : ℕ) → ◌≡◌ {A = Option ℕ} (Some n) (Some v) → n ≡ v
    small n e = ap (λ o. unwrap_or o n) e

    third : (t : Bool) → (nat_le 48 c && nat_le c 57) ≡ t → (if t then Some (c - 48) else None) ≡ Some v → (v < 16) × (slice_index lower_digits v ≡ c)
    third true is e =
        let parts = and_parts (nat_le 48 c) (nat_le c 57) is in
        let least = leb-true 48 c parts.0 in
        let most = leb-true c 57 parts.1 in
        let same = small (c - 48) e in
        (omega (arith, least, most, same), lower-low v (omega (arith, least, most, same)) ∙ omega (arith, least, most, same))
    third false is e = none e

    second : (t : Bool) → (nat_le 97 c && nat_le c 102) ≡ t → (if t then Some (c - 87) else if nat_le 48 c && nat_le c 57 then Some (c - 48) else None)
        ≡ Some v → (v < 16) × (slice_index lower_digits v ≡ c)
    second true is e =
        let parts = and_parts (nat_le 97 c) (nat_le c 102) is in
        let least = leb-true 97 c parts.0 in
        let most = leb-true c 102 parts.1 in
        let same = small (c - 87) e in (
          omega (arith, least, most, same),
          lower-high v (omega (arith, least, most, same)) (omega (arith, least, most, same))
              ∙ omega (arith, least, most, same),
        )
    second false is e = third (nat_le 48 c && nat_le c 57) refl e

    first : (t : Bool) → (nat_le 65 c && nat_le c 70) ≡ t
        → (if t then Some (c - 55) else if nat_le 97 c && nat_le c 102 then Some (c - 87) else if nat_le 48 c && nat_le c 57 then Some (c - 48) else None)
        ≡ Some v
        → (v < 16) × (slice_index lower_digits v ≡ c)
    first true is e = absurd (clash (is_within 65 70 c) is upper)
      where
        clash : (t : Bool) → t ≡ true → not t ≡ true → ⊥
        clash true p q = absurd (cc)
        clash false p q = absurd (cc)
    first false is e = second (nat_le 97 c && nat_le c 102) refl e

-- the byte of two digits is written as these
pair-back : (high low i b : ℕ) → IsTrue (no_upper high) → IsTrue (no_upper low) → pair_value high low i ≡ Ok b
    → (slice_index lower_digits (b / 16) ≡ high) × (slice_index lower_digits (b % 16) ≡ low)
pair-back high low i b uh ul e = go (hex_digit_value high) refl (hex_digit_value low) refl e
  where
    go : (h : Option ℕ) → hex_digit_value high ≡ h → (l : Option ℕ) → hex_digit_value low ≡ l
        → (digit_or_error high i h >>= (λ h. digit_or_error low (i + 1) l >>= (λ l. Ok (h * 16 + l)))) ≡ Ok b
        → (slice_index lower_digits (b / 16) ≡ high) × (slice_index lower_digits (b % 16) ≡ low)
    go None hs l ls e = absurd (cc)
    go (Some h) hs None ls e = absurd (cc)
    go (Some h) hs (Some l) ls e =
        let same : h * 16 + l ≡ b = ap (λ (r : Result ℕ FromHexError). result_unwrap_or r 0) e in
        let x = digit-back high h uh hs in
        let y = digit-back low l ul ls in
        let top : b / 16 ≡ h = omega (arith, same, x.0, y.0) in
        let bottom : b % 16 ≡ l = omega (arith, same, x.0, y.0) in
        (ap (λ z. slice_index lower_digits z) top ∙ x.1, ap (λ z. slice_index lower_digits z) bottom ∙ y.1)

pairs-back : (i : ℕ) (s bs : List ℕ) → IsTrue (list_all (λ b. not (is_within 65 70 b)) s) → decode_pairs i s ≡ Ok bs → encode_with lower_digits bs ≡ s
unfolding decode_pairs encode_with
pairs-back i [] bs u e = ap (λ z. encode_with lower_digits z) (sym (ap (λ (r : Result (List ℕ) FromHexError). result_unwrap_or r []) e))
pairs-back i (a ∷ []) bs u e = absurd (cc)
pairs-back i (a ∷ b ∷ s) bs u e =
    let p = and_parts (no_upper a) (no_upper b && list_all (λ b. not (is_within 65 70 b)) s) u in
    let q = and_parts (no_upper b) (list_all (λ b. not (is_within 65 70 b)) s) p.1 in
    go p.0 q.0 (pair_value a b i) refl (decode_pairs (i + 2) s) refl (λ rest h. pairs-back (i + 2) s rest q.1 h) e
  where
    go : IsTrue (no_upper a) → IsTrue (no_upper b) → (x : Result ℕ FromHexError) → pair_value a b i ≡ x → (y : Result (List ℕ) FromHexError) →
        decode_pairs (i + 2) s ≡ y
        → ((rest : List ℕ) → y ≡ Ok rest → encode_with lower_digits rest ≡ s)
        → (x >>= (λ byte. y >>= (λ bytes. Ok (byte ∷ bytes)))) ≡ Ok bs → encode_with lower_digits bs ≡ a ∷ b ∷ s
    go ua ub (Err f) xs y ys again e = absurd (cc)
    go ua ub (Ok byte) xs (Err f) ys again e = absurd (cc)
    go ua ub (Ok byte) xs (Ok rest) ys again e =
        let same : byte ∷ rest ≡ bs = ap (λ (r : Result (List ℕ) FromHexError). result_unwrap_or r []) e in
        let digits = pair-back a b i byte ua ub xs in
        ap (λ z. encode_with lower_digits z) (sym same)
        ∙ ap (λ z. z ∷ slice_index lower_digits (byte % 16) ∷ encode_with lower_digits rest) digits.0
        ∙ ap (λ z. a ∷ z ∷ encode_with lower_digits rest) digits.1
        ∙ ap (λ z. a ∷ b ∷ z) (again rest refl)

-- ---- into room

length-twice : (w : Word) (bs : List ℕ) → hex_bytes w ≡ Some bs → length w ≡ 2 * length bs
length-twice w bs e = ap length (hex-only w bs e).1 ∙ length-encode_with lower_digits bs

pub odd-none : (w : Word) (old new : List ℕ) → length w % 2 ≡ 1 → IsDecoded (hex_bytes w) old new None
odd-none w old new odd bs e = absurd (omega (arith, length-twice w bs e, odd))

pub big-none : (w : Word) (old new : List ℕ) → length old < length w / 2 → IsDecoded (hex_bytes w) old new None
big-none w old new big bs e = omega (arith, length-twice w bs e, big)

pub upper-none : (w : Word) (old new : List ℕ) → list_all (λ b. not (is_within 65 70 b)) w ≡ false → IsDecoded (hex_bytes w) old new None
upper-none w old new upper bs e =
    let x = hex-only w bs e in
    absurd (clash (list_all (λ b. not (is_within 65 70 b)) w) (ap (λ z. list_all (λ b. not (is_within 65 70 b)) z) x.1 ∙ hex-lower bs x.0) upper)
  where
    clash : (t : Bool) → t ≡ true → t ≡ false → ⊥
    clash t p q = absurd (cc)

-- what was decoded
pub decoded-some : (w : Word) (n : ℕ) (bs rest : List ℕ) → length w ≡ 2 * n → IsTrue (list_all (λ b. not (is_within 65 70 b)) w) → decode_sized w n ≡ Ok bs
    → (length bs ≡ n) × (hex_bytes w ≡ Some bs)
decoded-some w n bs rest twice lower e =
    let whole : decode_of w ≡ Ok bs = sym (decode_sized-twice w n twice) ∙ e in
    let even : length w % 2 ≡ 0 = omega (arith, twice) in
    let back = pairs-back 0 w bs lower (sym (decode_of-even w even) ∙ whole) in
    let len = length-encode_with lower_digits bs in
    let same = ap length back in
    (omega (arith, len, same, twice), ap (bytes_from w) whole ∙ ap (λ t. then_some t bs) ((bytes_eq-Decides (hex_word bs) w).1 back))

pub decoded-none : (w : Word) (n : ℕ) (old new : List ℕ) (f : FromHexError) → length w ≡ 2 * n → decode_sized w n ≡ Err f → IsDecoded (hex_bytes w) old new None
decoded-none w n old new f twice e bs is =
    let whole : decode_of w ≡ Err f = sym (decode_sized-twice w n twice) ∙ e in
    absurd (clash (sym (ap (bytes_from w) whole) ∙ is))
  where
    clash : ◌≡◌ {A = Option (List ℕ)} None (Some bs) → ⊥
    clash e = absurd (cc)

pub into-room : (w : Word) (n m : ℕ) (out old : List ℕ) (r : Result Unit FromHexError)
    → MatchResult (decode_sized w m) (λ bytes. (r ≡ Ok tt) × (out ≡ bytes)) (λ e. r ≡ Err e) → r ≡ Ok tt → m ≡ n → length w ≡ 2 * n
    → IsTrue (list_all (λ b. not (is_within 65 70 b)) w) → IsDecoded (hex_bytes w) old (out ++ drop n old) (Some n)
into-room w n m out old r read is same twice lower = go (decode_sized w m) refl read
  where
    clash : (e : FromHexError) → r ≡ Err e → r ≡ Ok tt → ⊥
    clash e p q = absurd (cc)

    go : (d : Result (List ℕ) FromHexError) → decode_sized w m ≡ d → MatchResult d (λ bytes. (r ≡ Ok tt) × (out ≡ bytes)) (λ e. r ≡ Err e)
        → IsDecoded (hex_bytes w) old (out ++ drop n old) (Some n)
    go (Err e) d h = absurd (clash e h is)
    go (Ok bytes) d h =
        let x = decoded-some w n bytes [] twice lower (ap (decode_sized w) (sym same) ∙ d) in
        let len : length out ≡ n = ap length h.1 ∙ x.0 in
        let front : take n (out ++ drop n old) ≡ out = ap (λ k. take k (out ++ drop n old)) (sym len) ∙ take-append_seam out (drop n old) in
        (omega (arith, len, Rattle.std.proofs.Common.length-append out (drop n old)), x.1 ∙ ap Some (sym h.1 ∙ sym front))

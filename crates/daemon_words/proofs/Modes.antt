-- Octal digits as the library reads them.
use Rattle.std.proofs.Common.{ℕ, ◌^◌, ◌<◌, ◌≤◌, true, leb, List, [], ◌∷◌, length, Result, Ok, Some, None, ◌≡◌, refl, subst, arith}
use Rattle.std.proofs.lemmas.Bool.{and_parts, leb-true, cond-true}
use Rattle.std.proofs.lemmas.Int.Digits.{digits_value-lt}
use Rattle.std.proofs.lemmas.Str.{digit_value_digit}
use Rattle.std.proofs.lemmas.Str.Parse.{without_leading_plus_none}
use Rattle.std.proofs.lemmas.Result.{Ok-from_Ok_iff}
use Rattle.std.specs.Str.Parse.{AllDigits, digits_value, without_leading_plus, IsNumeral, ParsesUnsigned}
use Rattle.std.specs.Result.{OkIff}
use Rattle.tardis_base.specs.Bytes.{is_within}
use Rattle.daemon_words.specs.Sockets.{are_octal, is_mode, mode_of}
use native.Mathlib.Nat.{pow-le-pow_right}

all_digits : (word : List ℕ) → are_octal word ≡ true → AllDigits 8 word
all_digits [] is = tt
all_digits (c ∷ cs) is =
    let both = and_parts (is_within 48 55 c) (are_octal cs) is in
    let ends = and_parts (leb 48 c) (leb c 55) both.0 in
    let from : 48 ≤ c = leb-true 48 c ends.0 in
    let to : c ≤ 55 = leb-true c 55 ends.1 in
    (omega (arith, digit_value_digit c (from, omega (arith, to)), from, to), all_digits cs both.1)

unsigned : (word : List ℕ) → are_octal word ≡ true → without_leading_plus word ≡ word
unsigned [] is = refl
unsigned (c ∷ cs) is =
    let both = and_parts (is_within 48 55 c) (are_octal cs) is in
    let ends = and_parts (leb 48 c) (leb c 55) both.0 in
    without_leading_plus_none (c ∷ cs) (λ e. omega (arith, leb-true 48 c ends.0, e))

-- three or four octal digits write a number below 4,096
pub mode_small : (word : List ℕ) → is_mode word ≡ true → digits_value 8 word < 4096
mode_small word is =
    let both = and_parts (is_within 3 4 (length word)) (are_octal word) is in
    let ends = and_parts (leb 3 (length word)) (leb (length word) 4) both.0 in
    omega (arith, digits_value-lt 8 word (all_digits word both.1), pow-le-pow_right {n = 8} (omega arith) (leb-true (length word) 4 ends.1))

-- and are read as it
pub mode_read : {E : Type 0} (word : List ℕ) (r : Result ℕ E) → ParsesUnsigned {E = E} 32 8 word r → is_mode word ≡ true → r ≡ Ok (digits_value 8 word)
mode_read {E} word r h is =
    let both = and_parts (is_within 3 4 (length word)) (are_octal word) is in
    let ends = and_parts (leb 3 (length word)) (leb (length word) 4) both.0 in
    let told = subst (λ (ds : List ℕ). OkIff r (IsNumeral 8 ds × (digits_value 8 ds < 2 ^ 32)) (digits_value 8 ds)) (unsigned word both.1) h in
    Ok-from_Ok_iff r (IsNumeral 8 word × (digits_value 8 word < 2 ^ 32)) (digits_value 8 word) told
    ((omega (arith, leb-true 3 (length word) ends.0), all_digits word both.1), omega (arith, mode_small word is))

pub mode_is : (word : List ℕ) → is_mode word ≡ true → mode_of word ≡ Some (digits_value 8 word)
mode_is word is = cond-true (is_mode word) (Some (digits_value 8 word)) None is

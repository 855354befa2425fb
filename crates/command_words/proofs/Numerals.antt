-- Numbers as the library reads them.
use Rattle.std.proofs.Common.{ℕ, ◌^◌, ◌<◌, ◌≤◌, true, ◌&&◌, leb, inl, inr, List, length, Err, Some, None, ◌≡◌, refl, sym, arith}
use Rattle.std.proofs.lemmas.Bool.{and_parts, and_from, and_right, leb-true, le-leb, lt-leb, cond-false, cases_lt}
use Rattle.std.proofs.lemmas.Str.Parse.{IsDigitsTest, IsNumeralModel, numerals_by_value, parse_digits}
use Rattle.std.specs.Str.Parse.{digits_value, ParsesUnsigned}
use Rattle.tardis_base.specs.Bytes.{is_within}
use Rattle.command_words.specs.Values.{are_digits, is_numeral, number}

tells : IsDigitsTest (λ ds. are_digits ds ≡ true)
tells = record {
  empty = refl;
  parts = λ c cs d.
      let both = and_parts (is_within 48 57 c) (are_digits cs) d in
      let ends = and_parts (leb 48 c) (leb c 57) both.0 in
      ((leb-true 48 c ends.0, leb-true c 57 ends.1), both.1);
  more = λ c cs k d. and_from (is_within 48 57 c) (are_digits cs) (and_from (leb 48 c) (leb c 57) (le-leb 48 c k.0) (le-leb c 57 k.1)) d;
}

own : IsNumeralModel (λ ds. are_digits ds ≡ true) (digits_value 10)
own = numerals_by_value (λ ds. are_digits ds ≡ true) tells

-- a numeral that isn't read is too large
too_large : {E : Type 0} (e : E) (word : List ℕ) → ParsesUnsigned {E = E} 32 10 word (Err e) → is_numeral word ≡ true → 2 ^ 32 ≤ digits_value 10 word
too_large {E} e word h is =
    let both = and_parts (is_within 1 10 (length word)) (are_digits word) is in
    let ends = and_parts (leb 1 (length word)) (leb (length word) 10) both.0 in
    let told = parse_digits own {E = E} 32 word (Err e) h both.1 in
    elim (cases_lt (digits_value 10 word) (2 ^ 32)) [
      | inl small ↦ absurd (told (omega (arith, leb-true 1 (length word) ends.0), small))
      | inr large ↦ large
    ]

-- so it is none of a range of numbers of 32 bits
pub not_read : {E : Type 0} (e : E) (least most : ℕ) (word : List ℕ) → ParsesUnsigned {E = E} 32 10 word (Err e) → is_numeral word ≡ true → most < 2 ^ 32 →
    None ≡ number least most word
not_read {E} e least most word h is fits =
    sym (cond-false (is_numeral word && is_within least most (digits_value 10 word)) (Some (digits_value 10 word)) None
    (and_right (is_numeral word) (is_within least most (digits_value 10 word))
    (and_right (leb least (digits_value 10 word)) (leb (digits_value 10 word) most)
    (lt-leb (digits_value 10 word) most (omega (arith, fits, too_large {E = E} e word h is))))))

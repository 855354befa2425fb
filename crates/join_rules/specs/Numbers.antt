-- What std reads as a number.
use Rattle.std.specs.Prelude.{◌≡◌, ℕ, ℤ, List, Option, Some, None, IsTrue}
use Rattle.std.specs.Fmt.{signed_decimal}
use Rattle.std.specs.Str.Parse.{signed_digits_value}
use Rattle.join_rules.specs.Values.{is_i64}

-- the number that the digits write, which fits; where none was read, the text is the decimal form of none that fits
abbrev pub ReadAs : List ℕ → Option ℤ → Type 0
ReadAs text (Some n) = (n ≡ signed_digits_value 10 text) × IsTrue (is_i64 n)
ReadAs text None = (n : ℤ) → IsTrue (is_i64 n) → signed_decimal n ≡ text → ⊥

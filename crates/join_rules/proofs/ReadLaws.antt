-- What std reads as a number.
use Rattle.std.proofs.Common.{◌≡◌, ℕ, ◌^◌, List, Result, Ok, Err, IsTrue, ltb-true, subst, w64, FitsSigned}
use Rattle.std.proofs.lemmas.Fmt.{IsAscii-signed, parse-signed_decimal}
use Rattle.std.proofs.lemmas.Str.{IsUtf8-from_ascii}
use Rattle.std.specs.Fmt.{signed_decimal}
use Rattle.std.specs.Prelude.{ℤ, pos, negsuc}
use Rattle.std.specs.Str.{IsUtf8}
use Rattle.std.specs.Str.Parse.{ParsesSigned}
use Rattle.join_rules.specs.Values.{is_i64}

pub fits : (n : ℤ) → IsTrue (is_i64 n) → FitsSigned w64 n
fits (pos n) h = record { sfits = ltb-true n (2 ^ 63) h }
fits (negsuc n) h = record { sfits = ltb-true n (2 ^ 63) h }

-- the decimal form of a number that fits is read
pub is-read : {E : Type 0} (text : List ℕ) (r : Result ℤ E) (e : E) → ParsesSigned w64 10 text r → r ≡ Err e → (n : ℤ) → IsTrue (is_i64 n) →
    text ≡ signed_decimal n → ⊥
is-read text r e parses failed n h is =
    let read : r ≡ Ok n = parse-signed_decimal w64 n text r (fits n h) (fits n h).sfits is parses in
    (cc)

pub is-text : (text : List ℕ) → ¬ (IsUtf8 text) → (n : ℤ) → IsTrue (is_i64 n) → signed_decimal n ≡ text → ⊥
is-text text other n h is = other (subst IsUtf8 is (IsUtf8-from_ascii (signed_decimal n) (IsAscii-signed n (fits n h).sfits)))

-- A code that is read, and what stands behind it.
use Rattle.std.proofs.Common.{◌≡◌, ℕ, Bool, true, false, ◌==◌, IsTrue, List, [], ◌∷◌, nat_lt, Option, Some, None, if◌then◌else◌, ap, sym, ◌∙◌, refl, arith}
use Rattle.std.proofs.Common.{ne_eqb, ltb-true, ltb-false}
use Rattle.std.proofs.lemmas.Bool.{and_parts}
use Rattle.std.specs.List.{list_all}
use Rattle.wire_item.specs.Fronts.{Front, front_of_code, by_code}
use Rattle.wire_item.specs.Readings.{u8_front}
use Rattle.wire_item.proofs.Numbers.{reads-u8}

-- each code fits a byte
abbrev pub are_codes : {A : Type 0} → List (ℕ × Front A) → Bool
are_codes rows = list_all (λ row. nat_lt row.0 256) rows

pub code-read : {A : Type 0} (rows : List (ℕ × Front A)) (old : List ℕ) (code : ℕ) (mid : List ℕ) → u8_front old ≡ Some (code, mid) → by_code rows old
    ≡ front_of_code code rows mid
code-read rows old code mid e = ap (by_code rows) (reads-u8.only old code mid e).1

far : {A : Type 0} (rows : List (ℕ × Front A)) (code : ℕ) (bytes : List ℕ) → IsTrue (are_codes rows) → nat_lt code 256 ≡ false →
    front_of_code code rows bytes ≡ None
far [] code bytes h e = refl
far (row ∷ rows) code bytes h e =
    let parts = and_parts (nat_lt row.0 256) (are_codes rows) h in
    let other : (row.0 == code) ≡ false = ne_eqb row.0 code (λ same. omega (arith, same, ltb-true row.0 256 parts.0, ltb-false code 256 e)) in
    ap (λ t. (if t then row.1 else front_of_code code rows) bytes) other ∙ far rows code bytes parts.1 e

pub code-none : {A : Type 0} (rows : List (ℕ × Front A)) (old : List ℕ) → IsTrue (are_codes rows) → u8_front old ≡ None → by_code rows old ≡ None
code-none rows [] h e = refl
code-none {A} rows (byte ∷ bytes) h e = go (nat_lt byte 256) refl
  where
    clash : ◌≡◌ {A = Option (ℕ × List ℕ)} None (Some (byte, bytes)) → ⊥
    clash e = absurd (cc)

    go : (t : Bool) → nat_lt byte 256 ≡ t → by_code rows (byte ∷ bytes) ≡ None
    go true fits = absurd (clash (sym e ∙ reads-u8.back byte bytes fits))
    go false far_off = far rows byte bytes h far_off

-- the code is that of no row
pub code-other : {A : Type 0} (first second : Front A) (m n code : ℕ) (bytes : List ℕ) → (code ≡ m → ⊥) → (code ≡ n → ⊥)
    → front_of_code code ((m, first) ∷ (n, second) ∷ []) bytes ≡ None
code-other {A} first second m n code bytes p q =
    let a : (m == code) ≡ false = ne_eqb m code (λ e. p (sym e)) in
    let b : (n == code) ≡ false = ne_eqb n code (λ e. q (sym e)) in
    ap (λ t. (if t then first else (if (n == code) then second else nothing)) bytes) a
    ∙ ap (λ t. (if t then second else nothing) bytes) b
  where
    nothing : Front A
    nothing bytes = None

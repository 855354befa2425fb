-- What stands at the front of bytes, part by part.
use Rattle.std.proofs.Common.{◌≡◌, ℕ, Bool, ◌==◌, IsTrue, IsFalse, List, [], ◌∷◌, length, Some, None, refl, sym, ap, ◌∙◌, ne_eqb, eqb-true, arith, if◌then◌else◌}
use Rattle.std.specs.Prelude.{option_and_then}
use Rattle.std.proofs.lemmas.Bool.{both_ways}
use Rattle.wire_item.specs.Fronts.{Front, bytes_front, made, both, alone, front_of_code}
use Rattle.wire_item.specs.Readings.{u8_front, u16_front}
use Rattle.wire_item.proofs.Fronts.{made-read, only_if-read}
use Rattle.wire_item.proofs.Takings.{made-none, only_if-none, only_if-fails, after-none, after-then_none, after-then}
use Rattle.wire_item.proofs.Codes.{code-read, code-none}
use Rattle.wire_lives.specs.declared.introductions.Introduction.{Introduction}
use Rattle.wire_lives.specs.Spellings.{is_placed}
use Rattle.wire_lives.specs.Readings.{behind_code, introduction_front, introduction_of}

abbrev of-parts : (ℕ × ℕ) × List ℕ → Introduction
of-parts p = record { number = p.0.0; sites = p.0.1; life = p.1 }

module _ (old : List ℕ) where
  unread : both (both u16_front u16_front) (bytes_front 16) old ≡ None → behind_code old ≡ None
  unread e =
      only_if-none is_placed (made of-parts (both (both u16_front u16_front) (bytes_front 16))) old
      (made-none of-parts (both (both u16_front u16_front) (bytes_front 16)) old e)

  pub no-number : u16_front old ≡ None → behind_code old ≡ None
  no-number e = unread (after-none (both u16_front u16_front) (λ _. bytes_front 16) old (after-none u16_front (λ _. u16_front) old e))

  pub no-sites : (number : ℕ) (first : List ℕ) → u16_front old ≡ Some (number, first) → u16_front first ≡ None → behind_code old ≡ None
  no-sites number first a b =
      unread
      (after-none (both u16_front u16_front) (λ _. bytes_front 16) old (after-then_none u16_front (λ _. u16_front) old number first a b))

  pub no-life : (number sites : ℕ) (first second : List ℕ) → u16_front old ≡ Some (number, first) → u16_front first ≡ Some (sites, second) →
      bytes_front 16 second ≡ None → behind_code old ≡ None
  no-life number sites first second a b c =
      unread
      (after-then_none (both u16_front u16_front) (λ _. bytes_front 16) old (number, sites) second
      (after-then u16_front (λ _. u16_front) old number first sites second a b) c)

  module _ (i : Introduction) (first second third : List ℕ) (a : u16_front old ≡ Some (i.number, first)) (b : u16_front first ≡ Some (i.sites, second))
      (c : bytes_front 16 second ≡ Some (i.life, third)) where
    parts-read : made of-parts (both (both u16_front u16_front) (bytes_front 16)) old ≡ Some (i, third)
    parts-read =
        made-read of-parts (both (both u16_front u16_front) (bytes_front 16)) old ((i.number, i.sites), i.life) third
        (after-then (both u16_front u16_front) (λ _. bytes_front 16) old (i.number, i.sites) second i.life third
        (after-then u16_front (λ _. u16_front) old i.number first i.sites second a b) c)

    pub all-read : IsTrue (is_placed i) → behind_code old ≡ Some (i, third)
    all-read t = only_if-read is_placed (made of-parts (both (both u16_front u16_front) (bytes_front 16))) old i third parts-read t

    pub unplaced : IsFalse (is_placed i) → behind_code old ≡ None
    unplaced f = only_if-fails is_placed (made of-parts (both (both u16_front u16_front) (bytes_front 16))) old i third parts-read f

-- ===== The whole

-- nothing is read at the front
pub none-whole : (bytes : List ℕ) → introduction_front bytes ≡ None → introduction_of bytes ≡ None
none-whole bytes e = ap (option_and_then (λ read. alone read.0 read.1)) e

pub no-code : (bytes : List ℕ) → u8_front bytes ≡ None → introduction_of bytes ≡ None
no-code bytes e = none-whole bytes (code-none ((71, behind_code) ∷ []) bytes refl e)

pub other-code : (bytes left : List ℕ) (code : ℕ) → u8_front bytes ≡ Some (code, left) → (code ≡ 71 → ⊥) → introduction_of bytes ≡ None
other-code bytes left code e other =
    none-whole bytes
    (code-read ((71, behind_code) ∷ []) bytes code left e
    ∙ ap (λ (b : Bool). (if b then behind_code else nothing) left) (ne_eqb 71 code (λ same. other (sym same))))
  where
    nothing : Front Introduction
    nothing bytes = None

module _ (bytes left : List ℕ) (code : ℕ) (e : u8_front bytes ≡ Some (code, left)) (is : code ≡ 71) where
  behind-is : introduction_front bytes ≡ behind_code left
  behind-is = code-read ((71, behind_code) ∷ []) bytes code left e ∙ ap (λ k. front_of_code k ((71, behind_code) ∷ []) left) is

  pub none-behind : behind_code left ≡ None → introduction_of bytes ≡ None
  none-behind n = none-whole bytes (behind-is ∙ n)

  pub some-behind : (i : Introduction) (rest : List ℕ) → behind_code left ≡ Some (i, rest) → introduction_of bytes ≡ alone i rest
  some-behind i rest s = ap (option_and_then (λ read. alone read.0 read.1)) (behind-is ∙ s)

pub alone-done : (i : Introduction) (rest : List ℕ) → IsTrue (length rest == 0) → alone i rest ≡ Some i
alone-done i [] t = refl
alone-done i (b ∷ rest) t = absurd (let e = eqb-true (length (b ∷ rest)) 0 t in let bad : ⊥ = omega (arith, e) in bad)

pub alone-left : (i : Introduction) (rest : List ℕ) → IsFalse (length rest == 0) → alone i rest ≡ None
alone-left i [] f = absurd (both_ways (length {A = ℕ} [] == 0) f refl)
alone-left i (b ∷ rest) f = refl

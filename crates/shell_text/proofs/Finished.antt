-- What the buffer holds once a spelling was read.
use Rattle.std.proofs.Common.{◌≡◌, ℕ, ◌≤◌, ◌+◌, Bool, true, false, ◌==◌, List, [], ◌∷◌, ◌++◌, length, nat_le, Option, Some, None, ap, ap₂, sym, ◌∙◌, refl}
use Rattle.std.proofs.Common.{arith, le-leb, ne_eqb}
use Rattle.std.specs.Prelude.{option_and_then}
use Rattle.std.specs.Bool.{then_some}
use Rattle.wire_item.specs.Fronts.{Front, alone, whole}
use Rattle.wire_item.proofs.Fronts.{some-parts}
use Rattle.text_words.specs.Puts.{putting, with_text, says, puts, is_read, longest_line}

-- the buffer is right where all was read, and the thing is none where not
pub record Finished {A : Type 0} (front : Front A) (text : A → List ℕ) (left : List ℕ) (lead : List ℕ) (view : Option (List ℕ)) (out : List ℕ) : Type 0 where
  pub read : is_read view ≡ true → (a : A) × (whole front left ≡ Some a) × (out ≡ lead ++ text a)
  pub unread : is_read view ≡ false → whole front left ≡ None

finished-some : {A : Type 0} (text : A → List ℕ) (lead : List ℕ) (a : A) (rest : List ℕ) (view : Option (List ℕ)) (out : List ℕ) (t : Bool)
    → putting view out ≡ then_some t (rest, lead ++ text a) → is_read view ≡ true → (rest ≡ []) × (out ≡ lead ++ text a)
finished-some text lead a rest None out t e h = absurd (cc)
finished-some text lead a rest (Some []) out true e h = let p = some-parts [] rest out (lead ++ text a) e in (sym p.0, p.1)
finished-some text lead a rest (Some (x ∷ left)) out true e h = absurd (omega (arith, Rattle.std.proofs.Common.eqb-true (length (x ∷ left)) 0 h))
finished-some text lead a rest (Some left) out false e h = absurd (cc)

view-none : (view : Option (List ℕ)) (out : List ℕ) → putting view out ≡ None → is_read view ≡ true → ⊥
view-none None out e h = absurd (cc)
view-none (Some left) out e h = absurd (cc)

cons-none : (x : ℕ) (xs : List ℕ) → x ∷ xs ≡ [] → ⊥
cons-none x xs e = absurd (cc)

view-some : (view : Option (List ℕ)) (out line : List ℕ) → putting view out ≡ Some ([], line) → is_read view ≡ true
view-some None out line e = absurd (cc)
view-some (Some []) out line e = refl
view-some (Some (x ∷ left)) out line e = absurd (cons-none x left (some-parts (x ∷ left) [] out line e).0)

true-false : (t : Bool) → t ≡ true → t ≡ false → ⊥
true-false t p q = absurd (cc)

pub finished : {A : Type 0} (front : Front A) (text : A → List ℕ) (left lead : List ℕ) (view : Option (List ℕ)) (out : List ℕ)
    → putting view out ≡ puts front text (Some (left, lead)) → ((a : A) → whole front left ≡ Some a → length lead + length (text a) ≤ longest_line)
    → Finished front text left lead view out
finished {A} front text left lead view out e fits = record {
  read = λ h. reading (front left) refl h;
  unread = λ h. unreading (front left) refl h;
}
  where
    put : (o : Option (A × List ℕ)) → front left ≡ o → putting view out ≡ option_and_then {T = A × List ℕ} {U = List ℕ × List ℕ}
        (λ read. with_text (text read.0) read.1 lead) o
    put o is = e ∙ ap (option_and_then {T = A × List ℕ} {U = List ℕ × List ℕ} (λ read. with_text (text read.0) read.1 lead)) is

    reading : (o : Option (A × List ℕ)) → front left ≡ o → is_read view ≡ true → (a : A) × (whole front left ≡ Some a) × (out ≡ lead ++ text a)
    reading None is h = absurd (view-none view out (put None is) h)
    reading (Some read) is h =
        let x = finished-some text lead read.0 read.1 view out (nat_le (length lead + length (text read.0)) longest_line) (put (Some read) is) h in
        (read.0, ap (option_and_then (λ read. alone read.0 read.1)) is ∙ ap (alone read.0) x.0, x.1)

    ended : (a : A) (rest : List ℕ) → front left ≡ Some (a, rest) → is_read view ≡ false → whole front left ≡ None
    ended a [] is h =
        let room = fits a (ap (option_and_then (λ read. alone read.0 read.1)) is) in
        absurd (true-false (is_read view)
        (view-some view out (lead ++ text a) (put (Some (a, [])) is
        ∙ ap (λ t. then_some t ([], lead ++ text a)) (le-leb (length lead + length (text a)) longest_line room))) h)
    ended a (x ∷ rest) is h = ap (option_and_then (λ read. alone read.0 read.1)) is

    unreading : (o : Option (A × List ℕ)) → front left ≡ o → is_read view ≡ false → whole front left ≡ None
    unreading None is h = ap (option_and_then (λ read. alone read.0 read.1)) is
    unreading (Some read) is h = ended read.0 read.1 is h

-- ---- bytes that are written in hexadecimal as they stand

view-line : (view : Option (List ℕ)) (out left line : List ℕ) → putting view out ≡ Some (left, line) → out ≡ line
view-line None out left line e = absurd (cc)
view-line (Some x) out left line e = (some-parts x left out line e).1

pub said : (view : Option (List ℕ)) (out text lead : List ℕ) → putting view out ≡ says text (Some ([], lead)) → length lead + length text ≤ longest_line →
    out ≡ lead ++ text
said view out text lead e fits =
    view-line view out [] (lead ++ text) (e ∙ ap (λ t. then_some t ([], lead ++ text)) (le-leb (length lead + length text) longest_line fits))

pub none-left : (rest : List ℕ) → (length rest == 0) ≡ true → rest ≡ []
none-left [] e = refl
none-left (x ∷ rest) e = absurd (omega (arith, Rattle.std.proofs.Common.eqb-true (length (x ∷ rest)) 0 e))

pub some-over : {A : Type 0} (front : Front A) (left : List ℕ) (a : A) (rest : List ℕ) → front left ≡ Some (a, rest) → (length rest == 0) ≡ false →
    whole front left ≡ None
some-over front left a [] e h = absurd (cc)
some-over front left a (x ∷ rest) e h = ap (option_and_then (λ read. alone read.0 read.1)) e

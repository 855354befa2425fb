-- Texts that are written one after another.
use Rattle.std.proofs.Common.{◌≡◌, ℕ, ◌+◌, Bool, true, false, not, Bor, List, ◌++◌, length, nat_le, ◌<◌, Option, Some, None, ap, ap₂, sym, ◌∙◌, refl, arith}
use Rattle.std.proofs.Common.{append_assoc, length-append, if◌then◌else◌}
use Rattle.std.proofs.lemmas.Bool.{lt-leb, leb-false}
use Rattle.std.specs.Prelude.{option_map, option_and_then, is_some}
use Rattle.std.specs.Option.{option_copied}
use Rattle.std.specs.Bool.{then_some}
use Rattle.wire_item.specs.Fronts.{Front, made, both, after}
use Rattle.wire_item.specs.Takings.{Takes}
use Rattle.wire_item.proofs.Takings.{taken, untaken}
use Rattle.text_words.specs.Puts.{Putting, putting, with_text, says, puts, longest_line, TakesNext}

-- two texts are written as one
pub with_text-twice : (x y left line : List ℕ) → says y (with_text x left line) ≡ with_text (x ++ y) left line
with_text-twice x y left line = go (nat_le (length line + length x) longest_line) refl
  where
    short : length (line ++ x) + length y ≡ length line + length (x ++ y)
    short = omega (arith, length-append line x, length-append x y)

    go : (t : Bool) → nat_le (length line + length x) longest_line ≡ t → says y (then_some t (left, line ++ x)) ≡ with_text (x ++ y) left line
    go true h = ap₂ (λ n z. then_some (nat_le n longest_line) (left, z)) short (append_assoc line x y)
    go false h =
        let long : longest_line < length line + length (x ++ y) = omega (arith, leb-false (length line + length x) longest_line h, length-append x y) in
        sym (ap (λ t. then_some t (left, line ++ (x ++ y))) (lt-leb (length line + length (x ++ y)) longest_line long))

pub says-twice : (x y : List ℕ) (s : Putting) → says y (says x s) ≡ says (x ++ y) s
says-twice x y None = refl
says-twice x y (Some s) = with_text-twice x y s.0 s.1

-- what is read and written is said
pub puts-read : {A : Type 0} (front : Front A) (text : A → List ℕ) (left line : List ℕ) (a : A) (rest : List ℕ) → front left ≡ Some (a, rest)
    → says (text a) (putting (Some rest) line) ≡ puts front text (putting (Some left) line)
puts-read front text left line a rest e = sym (ap (option_and_then (λ read. with_text (text read.0) read.1 line)) e)

pub puts-lost : {A : Type 0} (front : Front A) (text : A → List ℕ) (left line : List ℕ) → front left ≡ None → None ≡ puts front text (putting (Some left) line)
puts-lost front text left line e = sym (ap (option_and_then (λ read. with_text (text read.0) read.1 line)) e)

-- a text behind what was put
pub puts-says : {A : Type 0} (front : Front A) (text : A → List ℕ) (more : List ℕ) (s : Putting) → says more (puts front text s)
    ≡ puts front (λ a. text a ++ more) s
puts-says front text more None = refl
puts-says {A} front text more (Some s) = go (front s.0)
  where
    go : (o : Option (A × List ℕ)) → says more (option_and_then (λ read. with_text (text read.0) read.1 s.1) o)
        ≡ option_and_then (λ read. with_text (text read.0 ++ more) read.1 s.1) o
    go None = refl
    go (Some read) = with_text-twice (text read.0) more read.1 s.1

-- the same where it is known whether there is room for the first
with_text-then : (x y left line : List ℕ) (t : Bool) → nat_le (length line + length x) longest_line ≡ t → says y (then_some t (left, line ++ x))
    ≡ with_text (x ++ y) left line
with_text-then x y left line t h = ap (λ t. says y (then_some t (left, line ++ x))) (sym h) ∙ with_text-twice x y left line

-- a text before what is put
pub says-puts : {A : Type 0} (front : Front A) (text : A → List ℕ) (lead : List ℕ) (s : Putting) → puts front text (says lead s)
    ≡ puts front (λ a. lead ++ text a) s
says-puts front text lead None = refl
says-puts {A} front text lead (Some s) = go (nat_le (length s.1 + length lead) longest_line) refl
  where
    each : (o : Option (A × List ℕ)) → nat_le (length s.1 + length lead) longest_line ≡ true
        → option_and_then {U = List ℕ × List ℕ} (λ read. with_text (text read.0) read.1 (s.1 ++ lead)) o
        ≡ option_and_then (λ read. with_text (lead ++ text read.0) read.1 s.1) o
    each None h = refl
    each (Some read) h = with_text-then lead (text read.0) read.1 s.1 true h

    none : (o : Option (A × List ℕ)) → nat_le (length s.1 + length lead) longest_line ≡ false
        → None ≡ option_and_then {U = List ℕ × List ℕ} (λ read. with_text (lead ++ text read.0) read.1 s.1) o
    none None h = refl
    none (Some read) h = with_text-then lead (text read.0) read.1 s.1 false h

    go : (t : Bool) → nat_le (length s.1 + length lead) longest_line ≡ t
        → puts front text (then_some t (s.0, s.1 ++ lead)) ≡ puts front (λ a. lead ++ text a) (Some s)
    go true h = each (front s.0) h
    go false h = none (front s.0) h

-- what is made of a thing has the text of that thing
pub puts-made : {A B : Type 0} (to : A → B) (front : Front A) (text : B → List ℕ) (s : Putting) → puts front (λ a. text (to a)) s ≡ puts (made to front) text s
puts-made to front text None = refl
puts-made {A} {B} to front text (Some s) = go (front s.0)
  where
    go : (o : Option (A × List ℕ)) → option_and_then {U = List ℕ × List ℕ} (λ read. with_text (text (to read.0)) read.1 s.1) o
        ≡ option_and_then (λ read. with_text (text read.0) read.1 s.1) (option_map {U = B × List ℕ} (λ read. (to read.0, read.1)) o)
    go None = refl
    go (Some read) = refl

-- equal texts
pub puts-same : {A : Type 0} (front : Front A) (t u : A → List ℕ) → ((a : A) → t a ≡ u a) → (s : Putting) → puts front t s ≡ puts front u s
puts-same front t u same None = refl
puts-same {A} front t u same (Some s) = go (front s.0)
  where
    go : (o : Option (A × List ℕ)) → option_and_then {U = List ℕ × List ℕ} (λ read. with_text (t read.0) read.1 s.1) o
        ≡ option_and_then (λ read. with_text (u read.0) read.1 s.1) o
    go None = refl
    go (Some read) = ap (λ z. with_text z read.1 s.1) (same read.0)

-- one thing and then another, the second as the first says
pub puts-after : {A B : Type 0} (first : Front A) (second : A → Front B) (ta : A → List ℕ) (tb : B → List ℕ) (s : List ℕ × List ℕ) (a : A) (rest : List ℕ)
    → first s.0 ≡ Some (a, rest) → puts (second a) tb (says (ta a) (Some (rest, s.1))) ≡ puts (after first second) (λ p. ta p.0 ++ tb p.1) (Some s)
puts-after {A} {B} first second ta tb s a rest e =
    says-puts (second a) tb (ta a) (Some (rest, s.1)) ∙ go (second a rest)
    ∙ sym (ap (λ o. option_and_then (λ r. with_text (ta r.0.0 ++ tb r.0.1) r.1 s.1)
    (option_and_then {U = (A × B) × List ℕ} (λ read. made (λ b. (read.0, b)) (second read.0) read.1) o)) e)
  where
    go : (o : Option (B × List ℕ)) → option_and_then {U = List ℕ × List ℕ} (λ r. with_text (ta a ++ tb r.0) r.1 s.1) o
        ≡ option_and_then (λ r. with_text (ta r.0.0 ++ tb r.0.1) r.1 s.1) (option_map {U = (A × B) × List ℕ} (λ r. ((a, r.0), r.1)) o)
    go None = refl
    go (Some r) = refl

pub puts-both : {A B : Type 0} (fa : Front A) (fb : Front B) (ta : A → List ℕ) (tb : B → List ℕ) (s : Putting)
    → puts fb tb (puts fa ta s) ≡ puts (both fa fb) (λ p. ta p.0 ++ tb p.1) s
puts-both fa fb ta tb None = refl
puts-both {A} {B} fa fb ta tb (Some s) = go (fa s.0) refl
  where
    go : (o : Option (A × List ℕ)) → fa s.0 ≡ o → puts fb tb (puts fa ta (Some s)) ≡ puts (both fa fb) (λ p. ta p.0 ++ tb p.1) (Some s)
    go None e =
        ap (λ o. puts fb tb (option_and_then (λ read. with_text (ta read.0) read.1 s.1) o)) e
        ∙ sym (ap (λ o. option_and_then (λ r. with_text (ta r.0.0 ++ tb r.0.1) r.1 s.1)
        (option_and_then {U = (A × B) × List ℕ} (λ read. made (λ b. (read.0, b)) fb read.1) o)) e)
    go (Some read) e =
        ap (λ o. puts fb tb (option_and_then (λ read. with_text (ta read.0) read.1 s.1) o)) e
        ∙ puts-after fa (λ _. fb) ta tb s read.0 read.1 e

-- what is left, where nothing else was met
pub still : (lost : Bool) (left : List ℕ) → lost ≡ false → (if lost then None else Some left) ≡ Some left
still lost left e = ap (λ t. if t then None else Some left) e

pub found : (lost : Bool) (left : List ℕ) (view : Option (List ℕ)) → (if lost then None else Some left) ≡ view → lost ≡ false → view ≡ Some left
found lost left view is e = sym is ∙ still lost left e

-- ---- what is taken and not written at once

pub next-lost : {A : Type 0} (front : Front A) (lost : Bool) (left : List ℕ) (view : Option (List ℕ)) → (if lost then None else Some left) ≡ view → lost ≡ true
    → TakesNext front view None view
unfolding TakesNext
next-lost front lost left view is e =
    let none : view ≡ None = sym is ∙ ap (λ t. if t then None else Some left) e in
    (ap (option_and_then front) none, none)

-- what was taken, where nothing was lost before
pub next-read : {A : Type 0} (front : Front A) (left : List ℕ) (view : Option (List ℕ)) (a : Option A) (new : List ℕ) (t : Bool) → view ≡ Some left
    → Takes front left a new → is_some a ≡ not t → TakesNext front view a (if t then None else Some new)
unfolding TakesNext
next-read front left view None new true is h e = (ap (option_and_then front) is ∙ untaken front left new h, refl)
next-read front left view None new false is h e = absurd (cc)
next-read front left view (Some a) new true is h e = absurd (cc)
next-read front left view (Some a) new false is h e = (new, ap (option_and_then front) is ∙ taken front left new a h, refl)

pub copied-some : {T : Type 0} (o : Option (Bor T)) → is_some (option_copied o) ≡ is_some o
copied-some None = refl
copied-some (Some b) = refl

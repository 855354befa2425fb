-- Writing words from bytes: what is left of the bytes, and the line so far.
use Rattle.std.specs.Prelude.{◌≡◌, ℕ, ◌+◌, ◌==◌, Bool, false, List, ◌∷◌, ◌++◌, length, Option, Some, None, flat_map, nat_le, option_and_then}
use Rattle.text_words.specs.declared.line_bufs.TheConstants.{MAX_LINE}
use Rattle.std.specs.Bool.{then_some}
use Rattle.wire_item.specs.Fronts.{Front}
use Rattle.text_words.specs.Words.{Word}

-- the most bytes of a line: four for each byte of the longest spelling, and 64 more
abbrev pub longest_line : ℕ
longest_line = MAX_LINE

-- what is left and the line; None once something other than the spelling was met, or the line was too long
abbrev pub Putting : Type 0
Putting = Option (List ℕ × List ℕ)

abbrev pub putting : Option (List ℕ) → List ℕ → Putting
putting None line = None
putting (Some left) line = Some (left, line)

-- the text behind the line, where there is room for it
abbrev pub with_text : List ℕ → List ℕ → List ℕ → Putting
with_text text left line = then_some (nat_le (length line + length text) longest_line) (left, line ++ text)

-- the text is written
abbrev pub says : List ℕ → Putting → Putting
says text state = option_and_then (λ s. with_text text s.0 s.1) state

-- a thing is read from the front of what is left, and its text is written
abbrev pub puts : {A : Type 0} → Front A → (A → List ℕ) → Putting → Putting
puts front text state = option_and_then (λ s. option_and_then (λ read. with_text (text read.0) read.1 s.1) (front s.0)) state

-- a word behind a space
abbrev pub spaced : Word → List ℕ
spaced word = 32 ∷ word

-- the thing at the front of what is left, and then what stands behind it is left; once none stood there, nothing is
unfoldable pub TakesNext : {A : Type 0} → Front A → Option (List ℕ) → Option A → Option (List ℕ) → Type 0
TakesNext front old None new = (option_and_then front old ≡ None) × (new ≡ None)
TakesNext front old (Some a) new = (rest : List ℕ) × (option_and_then front old ≡ Some (a, rest)) × (new ≡ Some rest)

-- nothing else was met, and no bytes are left
abbrev pub is_read : Option (List ℕ) → Bool
is_read None = false
is_read (Some left) = length left == 0

-- a text, and then those of the things
abbrev pub texts : {A : Type 0} → List ℕ → (A → List ℕ) → List A → List ℕ
texts lead text things = lead ++ flat_map text things

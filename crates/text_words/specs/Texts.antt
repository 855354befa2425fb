-- How words are read from the front of text in which a byte stands behind each word.
use Rattle.std.specs.Prelude.{ℕ, ◌^◌, ◌==◌, ◌&&◌, not, List, [], ◌∷◌, ◌++◌, Option, Some, None, Result, Ok, Err, nat_lt, bytes_eq, option_map, option_and_then}
use Rattle.std.specs.Prelude.{if◌then◌else◌}
use Rattle.std.specs.Bool.{then_some}
use Rattle.std.specs.Str.Parse.{digits_value}
use Rattle.hex.specs.Hex.{decode_of}
use Rattle.hex.specs.declared.error.FromHexError.{FromHexError}
use Rattle.tardis_base.specs.declared.ids.StateId.{StateId}
use Rattle.tardis_base.specs.Valid.{is_id}
use Rattle.wire_item.specs.Fronts.{Front, made, only_if, both, times}
use Rattle.text_words.specs.Words.{Word, number_word, hex_word, are_printed, is_plain}

-- what stands before the first of these bytes, which is taken too
abbrev pub until : ℕ → Front Word
until c [] = None
until c (x ∷ xs) = if x == c then Some ([], xs) else option_map (λ read. (x ∷ read.0, read.1)) (until c xs)

-- the thing that the word before the byte c stands for
abbrev pub parsed : {A : Type 0} → (Word → Option A) → ℕ → Front A
parsed parse c text = option_and_then (λ read. option_map (λ a. (a, read.1)) (parse read.0)) (until c text)

-- the number below the limit of which the word has the digits
abbrev pub number_of : ℕ → Word → Option ℕ
number_of limit word =
    then_some (nat_lt (digits_value 10 word) limit && bytes_eq (number_word (digits_value 10 word)) word) (digits_value 10 word)

abbrev pub number_until : ℕ → ℕ → Front ℕ
number_until limit c = parsed (number_of limit) c

abbrev pub id_until : ℕ → Front StateId
id_until c = only_if is_id (made (λ p. record { site = p.0; sequence = p.1 }) (both (number_until (2 ^ 16) 46) (number_until (2 ^ 32) c)))

-- the bytes, if these are their hexadecimal digits
abbrev pub bytes_from : Word → Result (List ℕ) FromHexError → Option (List ℕ)
bytes_from word (Ok bytes) = then_some (bytes_eq (hex_word bytes) word) bytes
bytes_from word (Err e) = None

-- the bytes of which the word has the lower-case hexadecimal digits
abbrev pub hex_bytes : Word → Option (List ℕ)
hex_bytes word = bytes_from word (decode_of word)

-- bytes that are not their own word
abbrev pub unless_plain : Option (List ℕ) → Option (List ℕ)
unless_plain read = option_and_then (λ bytes. then_some (not (is_plain bytes)) bytes) read

-- the bytes for which the word stands
abbrev pub word_bytes : Word → Option (List ℕ)
word_bytes [] = None
word_bytes (c ∷ word) = if c == 35 then unless_plain (hex_bytes word) else then_some (are_printed (c ∷ word)) (c ∷ word)

-- how many spaces there are
abbrev pub spaces : List ℕ → ℕ
spaces [] = 0
spaces (c ∷ text) = if c == 32 then ℕ.suc (spaces text) else spaces text

-- as many things as there are spaces
abbrev pub rest_of : {A : Type 0} → Front A → Front (List A)
rest_of front text = times front (spaces text) text

-- what stands behind these bytes, where the text begins with them
abbrev pub behind : List ℕ → List ℕ → Option (List ℕ)
behind [] text = Some text
behind (p ∷ prefix) [] = None
behind (p ∷ prefix) (c ∷ text) = if p == c then behind prefix text else None

-- what the front reads behind a prefix, or else what was read otherwise
abbrev pub read_behind : {A : Type 0} → Front A → Option (List ℕ) → Option (A × List ℕ) → Option (A × List ℕ)
read_behind front None other = other
read_behind front (Some text) other = front text

-- the first row whose prefix stands at the front
abbrev pub by_prefix : {A : Type 0} → List (List ℕ × Front A) → Front A
by_prefix [] text = None
by_prefix (row ∷ rows) text = read_behind row.1 (behind row.0 text) (by_prefix rows text)

-- what was read, or else what was read otherwise
abbrev pub or_else : {A : Type 0} → Option (A × List ℕ) → Option (A × List ℕ) → Option (A × List ℕ)
or_else (Some read) other = Some read
or_else None other = other

-- the first, or else the second
abbrev pub either : {A : Type 0} → Front A → Front A → Front A
either first second text = or_else (first text) (second text)

-- this thing, where the text ends
abbrev pub ends : {A : Type 0} → A → Front A
ends a [] = Some (a, [])
ends a (c ∷ text) = None

abbrev pub bytes_until : ℕ → Front (List ℕ)
bytes_until c = parsed word_bytes c

-- words, with a space behind each
abbrev pub ended : List Word → List ℕ
ended [] = []
ended (w ∷ []) = w ++ 32 ∷ []
ended (w ∷ v ∷ words) = (w ++ 32 ∷ []) ++ ended (v ∷ words)

-- How numbers, ids and byte lists are written as words, and words as a line.
use Rattle.std.specs.Prelude.{ℕ, Bool, false, ◌==◌, ◌&&◌, not, List, [], ◌∷◌, ◌++◌, decimal, if◌then◌else◌}
use Rattle.std.specs.List.{list_all, join_with_byte}
use Rattle.hex.specs.Hex.{encode_lower}
use Rattle.tardis_base.specs.declared.ids.StateId.{StateId}
use Rattle.tardis_base.specs.Bytes.{is_within}

-- the bytes of a word
abbrev pub Word : Type 0
Word = List ℕ

-- words, with one space between each two
abbrev pub line : List Word → List ℕ
line words = join_with_byte 32 words

-- decimal digits, none of them a leading zero
abbrev pub number_word : ℕ → Word
number_word n = decimal n

-- site and sequence, joined by a point
abbrev pub id_word : StateId → Word
id_word x = number_word x.site ++ 46 ∷ number_word x.sequence

-- the bytes in lower-case hexadecimal
abbrev pub hex_word : List ℕ → Word
hex_word bytes = encode_lower bytes

-- each is a printed character other than the space
abbrev pub are_printed : List ℕ → Bool
are_printed bytes = list_all (λ b. is_within 33 126 b) bytes

-- bytes that are their own word: some, all of them printed, and the first is no #
abbrev pub is_plain : List ℕ → Bool
is_plain [] = false
is_plain (b ∷ bs) = not (b == 35) && are_printed (b ∷ bs)

-- plain bytes as they are; others in hexadecimal behind a #
abbrev pub byte_word : List ℕ → Word
byte_word bytes = if is_plain bytes then bytes else 35 ∷ hex_word bytes

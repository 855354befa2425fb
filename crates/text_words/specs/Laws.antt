-- The laws of words.
use Rattle.std.specs.Prelude.{◌≡◌, ◌↔◌, ℕ, ◌^◌, Bool, List, ◌∷◌, ◌++◌, Option, Some, None, IsTrue}
use Rattle.tardis_base.specs.Valid.{is_u64, are_bytes, is_id}
use Rattle.wire_item.specs.Fronts.{Front}
use Rattle.wire_item.specs.Spelled.{Spells}
use Rattle.text_words.specs.Words.{Word, number_word, id_word, hex_word, byte_word, are_printed}
use Rattle.text_words.specs.Texts.{number_of, id_until, hex_bytes, word_bytes}

-- each thing has one word, which is printed, and a word is read as the one thing for which it stands
pub record AreRead {A : Type 0} (valid : A → Bool) (word : A → Word) (parse : Word → Option A) : Type 0 where
  pub back : (a : A) → IsTrue (valid a) → parse (word a) ≡ Some a
  pub only : (w : Word) (a : A) → parse w ≡ Some a → IsTrue (valid a) × (w ≡ word a)
  pub printed : (a : A) → IsTrue (valid a) → IsTrue (are_printed (word a))

abbrev pub NumberWordsAreRead : Type 0
NumberWordsAreRead = AreRead is_u64 number_word (number_of (2 ^ 64))

-- the same with a space behind the word
pub record AreReadBeforeSpace {A : Type 0} (valid : A → Bool) (word : A → Word) (front : Front A) : Type 0 where
  pub back : (a : A) (rest : List ℕ) → IsTrue (valid a) → front (word a ++ 32 ∷ rest) ≡ Some (a, rest)
  pub only : (text : List ℕ) (a : A) (rest : List ℕ) → front text ≡ Some (a, rest) → IsTrue (valid a) × (text ≡ word a ++ 32 ∷ rest)

abbrev pub IdWordsAreRead : Type 0
IdWordsAreRead = AreReadBeforeSpace is_id id_word (id_until 32)

abbrev pub HexWordsAreRead : Type 0
HexWordsAreRead = AreRead are_bytes hex_word hex_bytes

abbrev pub ByteWordsAreRead : Type 0
ByteWordsAreRead = AreRead are_bytes byte_word word_bytes

-- each thing has one line, no two have the same, and a line is read as the one thing of which it is the line
pub record HasOneLine {A : Type 0} (valid : A → Bool) (written : A → List ℕ) (reading : List ℕ → Option A) : Type 0 where
  -- a line is read back
  pub read_back : (a : A) → IsTrue (valid a) → reading (written a) ≡ Some a
  -- bytes are the line of at most one thing
  pub one_thing : (bytes : List ℕ) (a b : A) → Spells valid written bytes a → Spells valid written bytes b → a ≡ b
  -- bytes are read as a thing exactly where they are its line
  pub some : (bytes : List ℕ) (a : A) → (reading bytes ≡ Some a) ↔ Spells valid written bytes a
  -- bytes are read as nothing exactly where they are no line
  pub none : (bytes : List ℕ) → (reading bytes ≡ None) ↔ ((a : A) → Spells valid written bytes a → ⊥)

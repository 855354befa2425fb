-- The laws of spellings.
use Rattle.std.specs.Prelude.{◌≡◌, ℕ, ◌≤◌, ◌↔◌, Bool, List, [], ◌++◌, length, Option, Some, None, IsTrue}
use Rattle.tardis_base.specs.declared.records.Record.{Record}
use Rattle.tardis_base.specs.declared.records.Consent.{Consent}
use Rattle.tardis_base.specs.Valid.{are_bytes, is_record}
use Rattle.wire_item.specs.Spellings.{record_spelling, consent_spelling, item_spelling, batch_spelling}
use Rattle.wire_item.specs.Valid.{is_consent, is_item, is_batch}
use Rattle.wire_item.specs.Readings.{record_of, consent_of, item_of, batch_of}
use Rattle.wire_item.specs.Spelled.{Spells}
use Rattle.wire_item.specs.Lengths.{record_length}

-- each thing of a kind has one spelling, and bytes are read as the one thing that they spell
pub record HasOneSpelling {A : Type 0} (valid : A → Bool) (spelling : A → List ℕ) (reading : List ℕ → Option A) : Type 0 where
  -- a spelling is read back
  pub read_back : (a : A) → IsTrue (valid a) → reading (spelling a) ≡ Some a
  -- bytes spell at most one thing
  pub one_thing : (bytes : List ℕ) (a b : A) → Spells valid spelling bytes a → Spells valid spelling bytes b → a ≡ b
  -- no spelling is a proper prefix of another
  pub no_prefix : (bytes more : List ℕ) (a b : A) → Spells valid spelling bytes a → Spells valid spelling (bytes ++ more) b → more ≡ []
  -- bytes are read as a thing exactly where they spell it
  pub some : (bytes : List ℕ) (a : A) → (reading bytes ≡ Some a) ↔ Spells valid spelling bytes a
  -- bytes are read as nothing exactly where they spell nothing
  pub none : (bytes : List ℕ) → (reading bytes ≡ None) ↔ ((a : A) → Spells valid spelling bytes a → ⊥)
  -- a spelling is bytes
  pub bytes : (a : A) → IsTrue (valid a) → IsTrue (are_bytes (spelling a))

abbrev pub RecordsHaveOneSpelling : Type 0
RecordsHaveOneSpelling = HasOneSpelling is_record record_spelling record_of

abbrev pub ConsentsHaveOneSpelling : Type 0
ConsentsHaveOneSpelling = HasOneSpelling is_consent consent_spelling consent_of

abbrev pub ItemsHaveOneSpelling : Type 0
ItemsHaveOneSpelling = HasOneSpelling is_item item_spelling item_of

abbrev pub BatchesHaveOneSpelling : Type 0
BatchesHaveOneSpelling = HasOneSpelling is_batch batch_spelling batch_of

abbrev pub RecordsHaveTheirLength : Type 0
RecordsHaveTheirLength = (r : Record) → length (record_spelling r) ≡ record_length r

abbrev pub RecordsAreBounded : Type 0
RecordsAreBounded = (r : Record) → IsTrue (is_record r) → record_length r ≤ 270648

abbrev pub ConsentsHaveSixteenBytes : Type 0
ConsentsHaveSixteenBytes = (c : Consent) → length (consent_spelling c) ≡ 16

-- What it means that bytes spell a thing.
use Rattle.std.specs.Prelude.{◌≡◌, ℕ, Bool, List, IsTrue}
use Rattle.tardis_base.specs.declared.records.Record.{Record}
use Rattle.tardis_base.specs.declared.records.Consent.{Consent}
use Rattle.tardis_base.specs.declared.records.Item.{Item}
use Rattle.tardis_base.specs.declared.records.Batch.{Batch}
use Rattle.tardis_base.specs.Valid.{is_record}
use Rattle.wire_item.specs.Spellings.{record_spelling, consent_spelling, item_spelling, batch_spelling}
use Rattle.wire_item.specs.Valid.{is_consent, is_item, is_batch}

-- there is such a thing, and the bytes are its spelling
abbrev pub Spells : {A : Type 0} → (A → Bool) → (A → List ℕ) → List ℕ → A → Type 0
Spells valid spelling bytes a = IsTrue (valid a) × (bytes ≡ spelling a)

abbrev pub SpellsRecord : List ℕ → Record → Type 0
SpellsRecord = Spells is_record record_spelling

abbrev pub SpellsConsent : List ℕ → Consent → Type 0
SpellsConsent = Spells is_consent consent_spelling

abbrev pub SpellsItem : List ℕ → Item → Type 0
SpellsItem = Spells is_item item_spelling

abbrev pub SpellsBatch : List ℕ → Batch → Type 0
SpellsBatch = Spells is_batch batch_spelling

-- How things are spelled in bytes. Every number has its most significant byte first.
use Rattle.std.specs.Prelude.{ℕ, List, [], ◌∷◌, ◌++◌, length, flat_map}
use Rattle.std.specs.Int.{w16, w32, w64, to_be_bytes}
use Rattle.tardis_base.specs.declared.ids.StateId.{StateId}
use Rattle.tardis_base.specs.declared.records.Write.{Write}
use Rattle.tardis_base.specs.declared.records.Write.TheVariants.{Put, Delete}
use Rattle.tardis_base.specs.declared.records.Record.{Record}
use Rattle.tardis_base.specs.declared.records.Consent.{Consent}
use Rattle.tardis_base.specs.declared.records.Item.{Item}
use Rattle.tardis_base.specs.declared.records.Item.TheVariants.{State, Promise}
use Rattle.tardis_base.specs.declared.records.Batch.{Batch}
use Rattle.tardis_base.specs.Keys.{KeyWrite}

-- a number of 8 bits, in 1 byte
abbrev pub u8_spelling : ℕ → List ℕ
u8_spelling n = n ∷ []

-- a number of 16 bits, in 2 bytes
abbrev pub u16_spelling : ℕ → List ℕ
u16_spelling n = to_be_bytes w16 n

-- a number of 32 bits, in 4 bytes
abbrev pub u32_spelling : ℕ → List ℕ
u32_spelling n = to_be_bytes w32 n

-- a number of 64 bits, in 8 bytes
abbrev pub u64_spelling : ℕ → List ℕ
u64_spelling n = to_be_bytes w64 n

-- a u16 for the site, a u32 for the sequence
abbrev pub id_spelling : StateId → List ℕ
id_spelling x = u16_spelling x.site ++ u32_spelling x.sequence

-- a u8 for the length, and the bytes
abbrev pub key_spelling : List ℕ → List ℕ
key_spelling k = u8_spelling (length k) ++ k

-- a u16 for the length, and the bytes
abbrev pub value_spelling : List ℕ → List ℕ
value_spelling v = u16_spelling (length v) ++ v

-- 1 and the value, or 0 for a deletion
abbrev pub write_spelling : Write → List ℕ
write_spelling (Put value) = 1 ∷ value_spelling value
write_spelling Delete = 0 ∷ []

-- a key, and what is written to it
abbrev pub key_write_spelling : KeyWrite → List ℕ
key_write_spelling w = key_spelling w.0 ++ write_spelling w.1

-- a u8 for the number of ids, and the ids
abbrev pub parents_spelling : List StateId → List ℕ
parents_spelling xs = u8_spelling (length xs) ++ flat_map id_spelling xs

-- a u8 for the number of writes, and the writes
abbrev pub writes_spelling : List KeyWrite → List ℕ
writes_spelling ws = u8_spelling (length ws) ++ flat_map key_write_spelling ws

-- the id, the parents, the writes
abbrev pub record_spelling : Record → List ℕ
record_spelling r = id_spelling r.id ++ parents_spelling r.parents ++ writes_spelling r.writes

-- a u16 for the site, a u32 for the consent's number, the floor, a u32 for the count
abbrev pub consent_spelling : Consent → List ℕ
consent_spelling c = u16_spelling c.site ++ u32_spelling c.number ++ id_spelling c.floor ++ u32_spelling c.count

-- 1 and a record, or 2 and a consent
abbrev pub item_spelling : Item → List ℕ
item_spelling (State r) = 1 ∷ record_spelling r
item_spelling (Promise c) = 2 ∷ consent_spelling c

-- a u16 for the number of records, and the records
abbrev pub records_spelling : List Record → List ℕ
records_spelling rs = u16_spelling (length rs) ++ flat_map record_spelling rs

-- a u8 for the number of consents, and the consents
abbrev pub consents_spelling : List Consent → List ℕ
consents_spelling cs = u8_spelling (length cs) ++ flat_map consent_spelling cs

-- the records, then the consents
abbrev pub batch_spelling : Batch → List ℕ
batch_spelling b = records_spelling b.records ++ consents_spelling b.consents

-- Each kind of thing is read as it is spelled.
use Rattle.std.proofs.Common.{◌≡◌, ℕ, ◌<◌, Bool, not, ◌&&◌, IsTrue, List, ◌++◌, length, nat_le, nat_lt, Some, refl, arith, leb-true, lt-ltb}
use Rattle.std.proofs.lemmas.Bool.{and_parts, and_from}
use Rattle.std.specs.List.{list_all}
use Rattle.tardis_base.specs.declared.ids.StateId.{StateId}
use Rattle.tardis_base.specs.declared.records.Write.{Write}
use Rattle.tardis_base.specs.declared.records.Write.TheVariants.{Put, Delete}
use Rattle.tardis_base.specs.declared.records.Record.{Record}
use Rattle.tardis_base.specs.declared.records.Consent.{Consent}
use Rattle.tardis_base.specs.declared.records.Item.{Item}
use Rattle.tardis_base.specs.declared.records.Item.TheVariants.{State, Promise}
use Rattle.tardis_base.specs.Ids.{root, same_id, are_ascending}
use Rattle.tardis_base.specs.Keys.{KeyWrite, keys_of, are_ascending_keys}
use Rattle.tardis_base.specs.Valid.{is_u16, is_u32, are_bytes, is_within, is_id, is_key, is_value, is_write, are_parents, are_writes, is_record}
use Rattle.tardis_base.proofs.TestParts.{first, second}
use Rattle.wire_item.specs.Spellings.{id_spelling, key_spelling, value_spelling, write_spelling, parents_spelling, writes_spelling, record_spelling}
use Rattle.wire_item.specs.Spellings.{consent_spelling, item_spelling, records_spelling, consents_spelling, batch_spelling}
use Rattle.wire_item.specs.Valid.{is_u8, is_consent, is_item, are_records, are_consents, is_batch}
use Rattle.wire_item.specs.Readings.{id_front, key_front, value_front, write_rows, write_front, parents_front, writes_front, record_front, consent_front}
use Rattle.wire_item.specs.Readings.{item_rows, item_front, records_front, consents_front, batch_front}
use Rattle.wire_item.proofs.Ways.{Reads, reads-both, reads-made, reads-only_if, reads-counted, many-times, many-bytes, row-nothing_but, row-made}
use Rattle.wire_item.proofs.Ways.{by_code-only, made-back}
use Rattle.wire_item.proofs.Numbers.{reads-u8, reads-u16, reads-u32}

-- at most so many are fewer than more
pub fits : (n most bound : ℕ) → IsTrue (nat_le n most) → most < bound → IsTrue (nat_lt n bound)
fits n most bound h few = lt-ltb n bound (omega (arith, leb-true n most h))

pub reads-id : Reads is_id id_spelling id_front
reads-id = reads-only_if is_id is_id (λ x h. (first (is_u16 x.site && is_u32 x.sequence) _ h, h)) (λ x v t. t)
    (reads-made (λ p. record { site = p.0; sequence = p.1 }) (λ x. (x.site, x.sequence)) (λ x. is_u16 x.site && is_u32 x.sequence) id_spelling
    (λ x h. refl) (λ p. refl) (λ p. refl) (reads-both reads-u16 reads-u32))

key_counted : (k : List ℕ) → IsTrue (is_key k) → IsTrue (is_u8 (length k) && are_bytes k)
key_counted k h =
    let parts = and_parts (is_within 1 128 (length k)) (are_bytes k) h in
    and_from (is_u8 (length k)) (are_bytes k) (fits (length k) 128 256 (second (nat_le 1 (length k)) (nat_le (length k) 128) parts.0) (omega arith)) parts.1

pub reads-key : Reads is_key key_spelling key_front
reads-key = reads-only_if is_key is_key (λ k h. (key_counted k h, h)) (λ k v t. t) (reads-counted reads-u8 many-bytes)

value_counted : (v : List ℕ) → IsTrue (is_value v) → IsTrue (is_u16 (length v) && are_bytes v)
value_counted v h =
    let parts = and_parts (nat_le (length v) 4096) (are_bytes v) h in
    and_from (is_u16 (length v)) (are_bytes v) (fits (length v) 4096 65536 parts.0 (omega arith)) parts.1

pub reads-value : Reads is_value value_spelling value_front
reads-value = reads-only_if is_value is_value (λ v h. (value_counted v h, h)) (λ v h t. t) (reads-counted reads-u16 many-bytes)

pub reads-write : Reads is_write write_spelling write_front
reads-write = record {
  back = back;
  only = by_code-only is_write write_spelling write_rows
      (row-nothing_but is_write write_spelling 0 Delete refl refl, (row-made is_write write_spelling 1 Put reads-value (λ v h. h) (λ v. refl), tt));
  bytes = bytes;
}
  where
    back : (w : Write) (rest : List ℕ) → IsTrue (is_write w) → write_front (write_spelling w ++ rest) ≡ Some (w, rest)
    back (Put value) rest h = made-back reads-value Put value rest h
    back Delete rest h = refl

    bytes : (w : Write) → IsTrue (is_write w) → IsTrue (are_bytes (write_spelling w))
    bytes (Put value) h = reads-value.bytes value h
    bytes Delete h = refl

parents_counted : (xs : List StateId) → IsTrue (are_parents xs) → IsTrue (is_u8 (length xs) && list_all is_id xs)
parents_counted xs h =
    let parts = and_parts (is_within 1 8 (length xs)) (list_all is_id xs) (first (is_within 1 8 (length xs) && list_all is_id xs) (are_ascending xs) h) in
    and_from (is_u8 (length xs)) (list_all is_id xs) (fits (length xs) 8 256 (second (nat_le 1 (length xs)) (nat_le (length xs) 8) parts.0) (omega arith))
    parts.1

pub reads-parents : Reads are_parents parents_spelling parents_front
reads-parents = reads-only_if are_parents are_parents (λ xs h. (parents_counted xs h, h)) (λ xs v t. t) (reads-counted reads-u8 (many-times reads-id))

writes_counted : (ws : List KeyWrite) → IsTrue (are_writes ws) → IsTrue (is_u8 (length ws) && list_all (λ w. is_key w.0 && is_write w.1) ws)
writes_counted ws h =
    let each : Bool = list_all (λ w. is_key w.0 && is_write w.1) ws in
    let parts = and_parts (nat_le (length ws) 64) each (first (nat_le (length ws) 64 && each) (are_ascending_keys (keys_of ws)) h) in
    and_from (is_u8 (length ws)) each (fits (length ws) 64 256 parts.0 (omega arith)) parts.1

pub reads-writes : Reads are_writes writes_spelling writes_front
reads-writes = reads-only_if are_writes are_writes (λ ws h. (writes_counted ws h, h)) (λ ws v t. t)
    (reads-counted reads-u8 (many-times (reads-both reads-key reads-write)))

record_parts : (r : Record) → IsTrue (is_record r) → IsTrue (is_id r.id && are_parents r.parents && are_writes r.writes) × IsTrue (not (same_id r.id root))
record_parts r h =
    let id : Bool = is_id r.id in
    let other : Bool = not (same_id r.id root) in
    let parents : Bool = are_parents r.parents in
    let writes : Bool = are_writes r.writes in
    let x = and_parts (id && other && parents) writes h in
    let y = and_parts (id && other) parents x.0 in
    let z = and_parts id other y.0 in
    (and_from (id && parents) writes (and_from id parents z.0 y.1) x.1, z.1)

record_whole : (r : Record) → IsTrue (is_id r.id && are_parents r.parents && are_writes r.writes) → IsTrue (not (same_id r.id root)) → IsTrue (is_record r)
record_whole r h t =
    let id : Bool = is_id r.id in
    let other : Bool = not (same_id r.id root) in
    let parents : Bool = are_parents r.parents in
    let writes : Bool = are_writes r.writes in
    let x = and_parts (id && parents) writes h in
    let y = and_parts id parents x.0 in
    and_from (id && other && parents) writes (and_from (id && other) parents (and_from id other y.0 t) y.1) x.1

pub reads-record : Reads is_record record_spelling record_front
reads-record = reads-only_if (λ r. not (same_id r.id root)) is_record record_parts record_whole
    (reads-made (λ p. record { id = p.0.0; parents = p.0.1; writes = p.1 }) (λ r. ((r.id, r.parents), r.writes))
    (λ r. is_id r.id && are_parents r.parents && are_writes r.writes) record_spelling
    (λ r h. refl) (λ p. refl) (λ p. refl) (reads-both (reads-both reads-id reads-parents) reads-writes))

pub reads-consent : Reads is_consent consent_spelling consent_front
reads-consent = reads-only_if (λ c. nat_le 1 c.site && nat_le 1 c.number) is_consent
    (λ c h. and_parts (is_u16 c.site && is_u32 c.number && is_id c.floor && is_u32 c.count) (nat_le 1 c.site && nat_le 1 c.number) h)
    (λ c h t. and_from (is_u16 c.site && is_u32 c.number && is_id c.floor && is_u32 c.count) (nat_le 1 c.site && nat_le 1 c.number) h t)
    (reads-made (λ p. record { site = p.0.0.0; number = p.0.0.1; floor = p.0.1; count = p.1 }) (λ c. (((c.site, c.number), c.floor), c.count))
    (λ c. is_u16 c.site && is_u32 c.number && is_id c.floor && is_u32 c.count) consent_spelling
    (λ c h. refl) (λ p. refl) (λ p. refl) (reads-both (reads-both (reads-both reads-u16 reads-u32) reads-id) reads-u32))

pub reads-item : Reads is_item item_spelling item_front
reads-item = record {
  back = back;
  only = by_code-only is_item item_spelling item_rows (
    row-made is_item item_spelling 1 State reads-record (λ r h. h) (λ r. refl),
    (row-made is_item item_spelling 2 Promise reads-consent (λ c h. h) (λ c. refl), tt),
  );
  bytes = bytes;
}
  where
    back : (i : Item) (rest : List ℕ) → IsTrue (is_item i) → item_front (item_spelling i ++ rest) ≡ Some (i, rest)
    back (State r) rest h = made-back reads-record State r rest h
    back (Promise c) rest h = made-back reads-consent Promise c rest h

    bytes : (i : Item) → IsTrue (is_item i) → IsTrue (are_bytes (item_spelling i))
    bytes (State r) h = reads-record.bytes r h
    bytes (Promise c) h = reads-consent.bytes c h

pub reads-records : Reads are_records records_spelling records_front
reads-records = reads-counted reads-u16 (many-times reads-record)

consents_counted : (cs : List Consent) → IsTrue (are_consents cs) → IsTrue (is_u8 (length cs) && list_all is_consent cs)
consents_counted cs h =
    let each : Bool = list_all is_consent cs in
    let parts = and_parts (nat_le (length cs) 16) each (first (nat_le (length cs) 16 && each) _ h) in
    and_from (is_u8 (length cs)) each (fits (length cs) 16 256 parts.0 (omega arith)) parts.1

pub reads-consents : Reads are_consents consents_spelling consents_front
reads-consents = reads-only_if are_consents are_consents (λ cs h. (consents_counted cs h, h)) (λ cs v t. t) (reads-counted reads-u8 (many-times reads-consent))

pub reads-batch : Reads is_batch batch_spelling batch_front
reads-batch = reads-made (λ p. record { records = p.0; consents = p.1 }) (λ b. (b.records, b.consents)) is_batch batch_spelling
    (λ b h. refl) (λ p. refl) (λ p. refl) (reads-both reads-records reads-consents)

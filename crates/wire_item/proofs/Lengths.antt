-- How many bytes spellings have.
use Rattle.std.proofs.Common.{◌≡◌, ℕ, ◌+◌, ◌*◌, ◌≤◌, Bool, not, ◌&&◌, IsTrue, List, [], ◌∷◌, ◌++◌, length, nat_le, ap, sym, ◌∙◌, refl, arith, leb-true}
use Rattle.std.proofs.Common.{length-append}
use Rattle.std.proofs.lemmas.Bool.{and_parts}
use Rattle.std.proofs.lemmas.List.Sums.{sum_by-cons}
use Rattle.std.specs.Prelude.{flat_map, sum_by}
use Rattle.std.specs.List.{list_all}
use Rattle.tardis_base.specs.declared.ids.StateId.{StateId}
use Rattle.tardis_base.specs.declared.records.Write.{Write}
use Rattle.tardis_base.specs.declared.records.Write.TheVariants.{Put, Delete}
use Rattle.tardis_base.specs.Ids.{root, same_id, are_ascending}
use Rattle.tardis_base.specs.Keys.{KeyWrite, keys_of, are_ascending_keys}
use Rattle.tardis_base.specs.Valid.{are_bytes, is_within, is_id, is_key, is_write, are_parents, are_writes}
use Rattle.wire_item.specs.Spellings.{id_spelling, key_spelling, write_spelling, key_write_spelling, parents_spelling, writes_spelling}
use Rattle.wire_item.specs.Lengths.{write_length, key_write_length}
use Rattle.wire_item.specs.Laws.{RecordsHaveTheirLength, RecordsAreBounded, ConsentsHaveSixteenBytes}
use Rattle.tardis_base.proofs.TestParts.{first, second}

pub write-length : (w : Write) → length (write_spelling w) ≡ write_length w
write-length (Put value) = omega arith
write-length Delete = refl

pub key_write-length : (w : KeyWrite) → length (key_write_spelling w) ≡ key_write_length w
key_write-length w = omega (arith, length-append (key_spelling w.0) (write_spelling w.1), write-length w.1)

pub ids-length : (xs : List StateId) → length (flat_map id_spelling xs) ≡ 6 * length xs
ids-length [] = refl
ids-length (x ∷ xs) = omega (arith, length-append (id_spelling x) (flat_map id_spelling xs), ids-length xs)

pub writes-length : (ws : List KeyWrite) → length (flat_map key_write_spelling ws) ≡ sum_by key_write_length ws
writes-length [] = refl
writes-length (w ∷ ws) =
    length-append (key_write_spelling w) (flat_map key_write_spelling ws)
    ∙ Rattle.std.proofs.Common.ap₂ (λ m n. m + n) (key_write-length w) (writes-length ws)
    ∙ sym (sum_by-cons key_write_length w ws)

pub record-length : RecordsHaveTheirLength
record-length r =
    let whole = length-append (id_spelling r.id ++ parents_spelling r.parents) (writes_spelling r.writes) in
    let front = length-append (id_spelling r.id) (parents_spelling r.parents) in
    omega (arith, whole, front, ids-length r.parents, writes-length r.writes)

write-bound : (w : Write) → IsTrue (is_write w) → write_length w ≤ 4099
write-bound (Put value) h = omega (arith, leb-true (length value) 4096 (and_parts (nat_le (length value) 4096) (are_bytes value) h).0)
write-bound Delete h = omega arith

key_write-bound : (w : KeyWrite) → IsTrue (is_key w.0 && is_write w.1) → key_write_length w ≤ 4228
key_write-bound w h =
    let parts = and_parts (is_key w.0) (is_write w.1) h in
    let within = second (nat_le 1 (length w.0)) (nat_le (length w.0) 128) (first (is_within 1 128 (length w.0)) (are_bytes w.0) parts.0) in
    omega (arith, leb-true (length w.0) 128 within, write-bound w.1 parts.1)

writes-bound : (ws : List KeyWrite) → IsTrue (list_all (λ w. is_key w.0 && is_write w.1) ws) → sum_by key_write_length ws ≤ 4228 * length ws
writes-bound [] h = omega arith
writes-bound (w ∷ ws) h =
    let parts = and_parts (is_key w.0 && is_write w.1) (list_all (λ w. is_key w.0 && is_write w.1) ws) h in
    omega (arith, sum_by-cons key_write_length w ws, key_write-bound w parts.0, writes-bound ws parts.1)

pub record-bound : RecordsAreBounded
record-bound r h =
    let shape = and_parts (is_id r.id && not (same_id r.id root) && are_parents r.parents) (are_writes r.writes) h in
    let parents = second (is_id r.id && not (same_id r.id root)) (are_parents r.parents) shape.0 in
    let some_parents = first (is_within 1 8 (length r.parents)) (list_all is_id r.parents)
    (first (is_within 1 8 (length r.parents) && list_all is_id r.parents) (are_ascending r.parents) parents) in
    let few_parents = leb-true (length r.parents) 8 (second (nat_le 1 (length r.parents)) (nat_le (length r.parents) 8) some_parents) in
    let each : Bool = list_all (λ w. is_key w.0 && is_write w.1) r.writes in
    let writes = and_parts (nat_le (length r.writes) 64) each (first (nat_le (length r.writes) 64 && each) (are_ascending_keys (keys_of r.writes)) shape.1) in
    let few_writes = leb-true (length r.writes) 64 writes.0 in
    omega (arith, few_parents, few_writes, writes-bound r.writes writes.1)

pub consent-length : ConsentsHaveSixteenBytes
consent-length c = refl

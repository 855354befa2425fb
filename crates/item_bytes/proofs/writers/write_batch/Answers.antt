use Rattle.std.proofs.Common.{◌+◌, ◌≤◌, ◌++◌, length, ap, sym, subst, ◌∙◌}
use Rattle.std.specs.Prelude.{flat_map}
use Rattle.tardis_base.specs.Sizes.{longest_frame}
use Rattle.wire_item.specs.Spellings.{u16_spelling, u8_spelling, record_spelling, consent_spelling}
use Rattle.wire_item.proofs.Written.{room-first, room-rest, written-two}
use Rattle.item_bytes.proofs.writers.write_batch.Goals as goal

pub write_u16-requires : goal.write_u16-requires
write_u16-requires c =
    let count = u16_spelling (length c.args.batch.now.records) in
    let records = flat_map record_spelling c.args.batch.now.records in
    let number = u8_spelling (length c.args.batch.now.consents) in
    let consents = flat_map consent_spelling c.args.batch.now.consents in
    room-first c.args.out.now count (records ++ (number ++ consents)) c.requires.room

pub write_records-requires-clause-room : goal.write_records-requires-clause-room
write_records-requires-clause-room c =
    let count = u16_spelling (length c.args.batch.now.records) in
    let records = flat_map record_spelling c.args.batch.now.records in
    let number = u8_spelling (length c.args.batch.now.consents) in
    let consents = flat_map consent_spelling c.args.batch.now.consents in
    let one = c.write_u16.ensures ∙ ap (λ n. c.args.out.now ++ u16_spelling n) c.len.ensures in
    let room1 = room-rest c.args.out.now count (records ++ (number ++ consents)) c.write_u16.new.out one c.requires.room in
    subst (λ xs. length c.write_u16.new.out + length (flat_map record_spelling xs) ≤ longest_frame) (sym c.as_slice.ensures)
    (room-first c.write_u16.new.out records (number ++ consents) room1)

pub write_u8-requires : goal.write_u8-requires
write_u8-requires c =
    let count = u16_spelling (length c.args.batch.now.records) in
    let records = flat_map record_spelling c.args.batch.now.records in
    let number = u8_spelling (length c.args.batch.now.consents) in
    let consents = flat_map consent_spelling c.args.batch.now.consents in
    let one = c.write_u16.ensures ∙ ap (λ n. c.args.out.now ++ u16_spelling n) c.len.ensures in
    let room1 = room-rest c.args.out.now count (records ++ (number ++ consents)) c.write_u16.new.out one c.requires.room in
    let two = c.write_records.ensures ∙ ap (λ xs. c.write_u16.new.out ++ flat_map record_spelling xs) c.as_slice.ensures in
    let room2 = room-rest c.write_u16.new.out records (number ++ consents) c.write_records.new.out two room1 in
    room-first c.write_records.new.out number consents room2

pub write_consents-requires-clause-room : goal.write_consents-requires-clause-room
write_consents-requires-clause-room c =
    let count = u16_spelling (length c.args.batch.now.records) in
    let records = flat_map record_spelling c.args.batch.now.records in
    let number = u8_spelling (length c.args.batch.now.consents) in
    let consents = flat_map consent_spelling c.args.batch.now.consents in
    let one = c.write_u16.ensures ∙ ap (λ n. c.args.out.now ++ u16_spelling n) c.len.ensures in
    let room1 = room-rest c.args.out.now count (records ++ (number ++ consents)) c.write_u16.new.out one c.requires.room in
    let two = c.write_records.ensures ∙ ap (λ xs. c.write_u16.new.out ++ flat_map record_spelling xs) c.as_slice.ensures in
    let room2 = room-rest c.write_u16.new.out records (number ++ consents) c.write_records.new.out two room1 in
    let three = c.write_u8.ensures ∙ ap (λ n. c.write_records.new.out ++ u8_spelling n) c.len-2.ensures in
    let room3 = room-rest c.write_records.new.out number consents c.write_u8.new.out three room2 in
    subst (λ xs. length c.write_u8.new.out + length (flat_map consent_spelling xs) ≤ longest_frame) (sym c.as_slice-2.ensures) room3

pub returns : goal.returns
returns c =
    let count = u16_spelling (length c.args.batch.now.records) in
    let records = flat_map record_spelling c.args.batch.now.records in
    let number = u8_spelling (length c.args.batch.now.consents) in
    let consents = flat_map consent_spelling c.args.batch.now.consents in
    let one = c.write_u16.ensures ∙ ap (λ n. c.args.out.now ++ u16_spelling n) c.len.ensures in
    let two = c.write_records.ensures ∙ ap (λ xs. c.write_u16.new.out ++ flat_map record_spelling xs) c.as_slice.ensures in
    let three = c.write_u8.ensures ∙ ap (λ n. c.write_records.new.out ++ u8_spelling n) c.len-2.ensures in
    let four = c.write_consents.ensures ∙ ap (λ xs. c.write_u8.new.out ++ flat_map consent_spelling xs) c.as_slice-2.ensures in
    written-two c.args.out.now (count ++ records) (number ++ consents) c.write_records.new.out c.write_consents.new.out
    (written-two c.args.out.now count records c.write_u16.new.out c.write_records.new.out one two)
    (written-two c.write_records.new.out number consents c.write_u8.new.out c.write_consents.new.out three four)

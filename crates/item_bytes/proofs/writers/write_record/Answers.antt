use Rattle.std.proofs.Common.{◌&&◌, ◌++◌, not}
use Rattle.std.proofs.lemmas.Bool.{and_parts}
use Rattle.tardis_base.specs.Ids.{root, same_id}
use Rattle.tardis_base.specs.Valid.{is_id, are_parents, are_writes}
use Rattle.wire_item.specs.Spellings.{id_spelling, parents_spelling, writes_spelling}
use Rattle.wire_item.proofs.Written.{room-first, room-rest, written-two}
use Rattle.item_bytes.proofs.writers.write_record.Goals as goal

pub write_id-requires : goal.write_id-requires
write_id-requires c =
    let r = c.args.rec.now in
    room-first c.args.out.now (id_spelling r.id) (parents_spelling r.parents ++ writes_spelling r.writes) c.requires.room

pub write_parents-requires-clause-room : goal.write_parents-requires-clause-room
write_parents-requires-clause-room c =
    let r = c.args.rec.now in
    let both = parents_spelling r.parents ++ writes_spelling r.writes in
    room-first c.write_id.new.out (parents_spelling r.parents) (writes_spelling r.writes)
    (room-rest c.args.out.now (id_spelling r.id) both c.write_id.new.out c.write_id.ensures c.requires.room)

pub write_writes-requires-clause-room : goal.write_writes-requires-clause-room
write_writes-requires-clause-room c =
    let r = c.args.rec.now in
    let two = written-two c.args.out.now (id_spelling r.id) (parents_spelling r.parents) c.write_id.new.out c.write_parents.new.out c.write_id.ensures
    c.write_parents.ensures in
    room-rest c.args.out.now (id_spelling r.id ++ parents_spelling r.parents) (writes_spelling r.writes) c.write_parents.new.out two c.requires.room

pub returns : goal.returns
returns c =
    let r = c.args.rec.now in
    let two = written-two c.args.out.now (id_spelling r.id) (parents_spelling r.parents) c.write_id.new.out c.write_parents.new.out c.write_id.ensures
    c.write_parents.ensures in
    written-two c.args.out.now (id_spelling r.id ++ parents_spelling r.parents) (writes_spelling r.writes) c.write_parents.new.out c.write_writes.new.out two
    c.write_writes.ensures

pub write_parents-requires-clause-valid : goal.write_parents-requires-clause-valid
write_parents-requires-clause-valid c =
    let r = c.args.rec.now in
    let shape = and_parts (is_id r.id && not (same_id r.id root) && are_parents r.parents) (are_writes r.writes) c.requires.valid in
    (and_parts (is_id r.id && not (same_id r.id root)) (are_parents r.parents) shape.0).1

pub write_writes-requires-clause-valid : goal.write_writes-requires-clause-valid
write_writes-requires-clause-valid c =
    let r = c.args.rec.now in
    (and_parts (is_id r.id && not (same_id r.id root) && are_parents r.parents) (are_writes r.writes) c.requires.valid).1

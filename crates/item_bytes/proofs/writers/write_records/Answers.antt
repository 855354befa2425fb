use Rattle.tardis_base.specs.Valid.{is_record}
use Rattle.tardis_base.specs.Sizes.{longest_frame}
use Rattle.wire_item.specs.Spellings.{record_spelling}
use Rattle.wire_item.proofs.Writings.{room-item}
use Rattle.wire_item.proofs.Written.{each-valid, each-next, each-last}
use Rattle.item_bytes.proofs.writers.write_records.Goals as goal

pub write_record-requires-clause-room : goal.write_record-requires-clause-room
write_record-requires-clause-room c =
    room-item record_spelling c.args.records.now c.loop-rec.rec-index c.rec-item.result c.args.out.now c.loop-rec.out longest_frame c.rec-item.is
    c.loop-rec.invariant c.loop-rec-test.true c.requires.room

pub write_record-requires-clause-valid : goal.write_record-requires-clause-valid
write_record-requires-clause-valid c =
    each-valid is_record c.args.records.now c.loop-rec.rec-index c.rec-item.result c.rec-item.result c.loop-rec-test.true c.rec-item.is c.requires.valid

pub loop-rec-preserved : goal.loop-rec-preserved
loop-rec-preserved c =
    each-next record_spelling c.args.records.now c.loop-rec.rec-index c.rec-item.result c.rec-item.result c.args.out.now c.loop-rec.out
    c.write_record.new.out c.loop-rec-test.true c.loop-rec.invariant c.rec-item.is c.write_record.ensures

pub returns : goal.returns
returns c =
    each-last record_spelling c.args.records.now c.loop-rec.rec-index c.args.out.now c.loop-rec.out c.loop-rec-test.false c.loop-rec.invariant

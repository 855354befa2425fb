use Rattle.std.proofs.Common.{arith}
use Rattle.tardis_base.specs.Ids.{root}
use Rattle.tardis_base.specs.Sizes.{longest_frame}
use Rattle.wire_item.specs.Spellings.{id_spelling}
use Rattle.wire_item.proofs.Writings.{room-next}
use Rattle.item_bytes.proofs.writers.write_ids.Goals as goal

pub write_id-requires : goal.write_id-requires
write_id-requires c = room-next id_spelling c.args.ids.now c.loop-id.id-index root c.args.out.now c.loop-id.out longest_frame c.loop-id.invariant
    (omega arith) (omega arith)

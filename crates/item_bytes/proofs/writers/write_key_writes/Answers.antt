use Rattle.tardis_base.specs.Sizes.{longest_frame}
use Rattle.wire_item.specs.Spellings.{key_write_spelling}
use Rattle.wire_item.proofs.Writings.{room-item}
use Rattle.item_bytes.proofs.writers.write_key_writes.Goals as goal

pub write_key_write-requires : goal.write_key_write-requires
write_key_write-requires c =
    room-item key_write_spelling c.args.writes.now c.loop-pair.pair-index c.pair-item.result c.args.out.now c.loop-pair.out longest_frame c.pair-item.is
    c.loop-pair.invariant c.loop-pair-test.true c.requires

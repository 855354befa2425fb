use Rattle.std.proofs.Common.{arith}
use Rattle.tardis_base.specs.Ids.{root}
use Rattle.tardis_base.specs.Sizes.{longest_frame}
use Rattle.wire_item.proofs.Writings.{room-next}
use Rattle.site_peers.specs.Asking.{count_spelling}
use Rattle.site_peers.proofs.pulls.put_counts.Goals as goal

pub write_u32-requires : goal.write_u32-requires
write_u32-requires c =
    room-next count_spelling c.args.lines.now c.loop-line.line-index (record { count = 0; floor = root; number = 0 }) c.args.out.now c.loop-line.out
    longest_frame c.loop-line.invariant (omega arith) (omega arith)

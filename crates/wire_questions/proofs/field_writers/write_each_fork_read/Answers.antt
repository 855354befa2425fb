use Rattle.std.proofs.Common.{◌+◌, ◌≤◌, length, sym, subst}
use Rattle.std.specs.Prelude.{flat_map}
use Rattle.tardis_base.specs.Sizes.{longest_frame}
use Rattle.plain_questions.specs.Spellings.{fork_read_spelling}
use Rattle.wire_item.proofs.Written.{each-room}
use Rattle.wire_questions.proofs.field_writers.write_each_fork_read.Goals as goal

pub write_fork_read-requires : goal.write_fork_read-requires
write_fork_read-requires c =
    let items = c.as_slice-read-items.result.now in
    let item = c.read-item.result in
    let room = subst (λ xs. length c.args.out.now + length (flat_map fork_read_spelling xs) ≤ longest_frame) (sym c.as_slice-read-items.ensures) c.requires.fits in
    each-room fork_read_spelling items c.loop-read.read-index item item c.args.out.now c.loop-read.out c.loop-read-test.true c.loop-read.invariant c.read-item.is room

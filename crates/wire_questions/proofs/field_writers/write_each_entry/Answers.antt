use Rattle.std.proofs.Common.{◌+◌, ◌≤◌, length, sym, subst}
use Rattle.std.specs.Prelude.{flat_map}
use Rattle.tardis_base.specs.Sizes.{longest_frame}
use Rattle.plain_questions.specs.Spellings.{entry_spelling}
use Rattle.wire_item.proofs.Written.{each-room}
use Rattle.wire_questions.proofs.field_writers.write_each_entry.Goals as goal

pub write_entry-requires : goal.write_entry-requires
write_entry-requires c =
    let items = c.as_slice-entry-items.result.now in
    let item = c.entry-item.result in
    let room = subst (λ xs. length c.args.out.now + length (flat_map entry_spelling xs) ≤ longest_frame) (sym c.as_slice-entry-items.ensures) c.requires.fits in
    each-room entry_spelling items c.loop-entry.entry-index item item c.args.out.now c.loop-entry.out c.loop-entry-test.true c.loop-entry.invariant c.entry-item.is room

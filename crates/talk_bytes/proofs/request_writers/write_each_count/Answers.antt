use Rattle.std.proofs.Common.{◌+◌, ◌≤◌, length, get_or, sym, subst, refl}
use Rattle.std.specs.Prelude.{flat_map}
use Rattle.tardis_base.specs.Sizes.{longest_frame}
use Rattle.wire_item.specs.Spellings.{u32_spelling}
use Rattle.wire_item.proofs.Written.{each-room}
use Rattle.talk_bytes.proofs.request_writers.write_each_count.Goals as goal

pub write_u32-requires : goal.write_u32-requires
write_u32-requires c =
    let counts = c.as_slice-count-items.result.now in
    let index = c.loop-count.count-index in
    let room = subst (λ xs. length c.args.out.now + length (flat_map u32_spelling xs) ≤ longest_frame) (sym c.as_slice-count-items.ensures) c.requires.fits in
    each-room u32_spelling counts index 0 (get_or counts index 0) c.args.out.now c.loop-count.out c.loop-count-test.true c.loop-count.invariant refl room

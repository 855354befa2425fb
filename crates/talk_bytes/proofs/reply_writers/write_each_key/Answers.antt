use Rattle.std.proofs.Common.{◌+◌, ◌≤◌, length, sym, subst}
use Rattle.std.specs.Prelude.{flat_map}
use Rattle.tardis_base.specs.Sizes.{longest_frame}
use Rattle.wire_item.specs.Spellings.{key_spelling}
use Rattle.wire_item.proofs.Written.{each-room}
use Rattle.talk_bytes.proofs.reply_writers.write_each_key.Goals as goal

pub write_key-requires : goal.write_key-requires
write_key-requires c =
    let keys = c.as_slice-key-items.result.now in
    let key = c.key-item.result in
    let room = subst (λ xs. length c.args.out.now + length (flat_map key_spelling xs) ≤ longest_frame) (sym c.as_slice-key-items.ensures) c.requires.fits in
    each-room key_spelling keys c.loop-key.key-index key key c.args.out.now c.loop-key.out c.loop-key-test.true c.loop-key.invariant c.key-item.is room

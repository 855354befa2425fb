use Rattle.std.proofs.Common.{[], ◌∷◌, ◌++◌}
use Rattle.wire_item.specs.Spellings.{u16_spelling, u32_spelling, u64_spelling}
use Rattle.wire_item.proofs.Written.{written-two}
use Rattle.talk_bytes.proofs.reply_writers.write_sizes.Goals as goal

pub returns : goal.returns
returns c =
    let known = 14 ∷ u64_spelling c.args.known in
    let kept = u32_spelling c.args.kept in
    let leaves = u32_spelling c.args.leaves in
    let sessions = u16_spelling c.args.sessions in
    let out = c.args.out.now in
    let one = written-two out (14 ∷ []) (u64_spelling c.args.known) c.push_byte.new.self c.write_u64.new.out c.push_byte.ensures c.write_u64.ensures in
    let two = written-two out known kept c.write_u64.new.out c.write_u32.new.out one c.write_u32.ensures in
    let three = written-two out (known ++ kept) leaves c.write_u32.new.out c.write_u32-2.new.out two c.write_u32-2.ensures in
    written-two out (known ++ kept ++ leaves) sessions c.write_u32-2.new.out c.write_u16.new.out three c.write_u16.ensures

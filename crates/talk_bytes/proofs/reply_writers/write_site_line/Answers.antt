use Rattle.std.proofs.Common.{◌++◌}
use Rattle.wire_item.specs.Spellings.{id_spelling, u32_spelling}
use Rattle.wire_item.proofs.Written.{written-two}
use Rattle.talk_bytes.proofs.reply_writers.write_site_line.Goals as goal

pub returns : goal.returns
returns c =
    let count = u32_spelling c.args.line.now.count in
    let floor = id_spelling c.args.line.now.floor in
    let number = u32_spelling c.args.line.now.number in
    let out = c.args.out.now in
    let two = written-two out count floor c.write_u32.new.out c.write_id.new.out c.write_u32.ensures c.write_id.ensures in
    written-two out (count ++ floor) number c.write_id.new.out c.write_u32-2.new.out two c.write_u32-2.ensures

use Rattle.std.proofs.Common.{◌++◌}
use Rattle.wire_item.specs.Spellings.{u16_spelling, u32_spelling, u64_spelling}
use Rattle.wire_item.proofs.Written.{written-two}
use Rattle.wire_questions.proofs.field_writers.write_limits.Goals as goal

pub returns : goal.returns
returns c =
    let l = c.args.limits in
    let out = c.args.out.now in
    let sites = u16_spelling l.sites in
    let kept = u32_spelling l.max_kept in
    let path = u32_spelling l.max_path in
    let sessions = u16_spelling l.max_sessions in
    let a = written-two out sites kept c.write_u16.new.out c.write_u32.new.out c.write_u16.ensures c.write_u32.ensures in
    let b = written-two out (sites ++ kept) path c.write_u32.new.out c.write_u32-2.new.out a c.write_u32-2.ensures in
    let d = written-two out (sites ++ kept ++ path) sessions c.write_u32-2.new.out c.write_u16-2.new.out b c.write_u16-2.ensures in
    written-two out (sites ++ kept ++ path ++ sessions) (u64_spelling l.max_trail) c.write_u16-2.new.out c.write_u64.new.out d c.write_u64.ensures

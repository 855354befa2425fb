use Rattle.std.proofs.Common.{[], ◌∷◌, ◌++◌}
use Rattle.wire_item.specs.Spellings.{u16_spelling, u32_spelling, u64_spelling}
use Rattle.wire_item.proofs.Written.{written-two}
use Rattle.plain_questions.specs.Spellings.{limits_spelling}
use Rattle.wire_questions.proofs.answer_writers.write_site.Goals as goal

pub returns : goal.returns
returns c =
    let out = c.args.out.now in
    let version = 70 ∷ u16_spelling c.args.version in
    let limits = limits_spelling c.args.limits in
    let own = u16_spelling c.args.own in
    let known = u64_spelling c.args.known in
    let a = written-two out (70 ∷ []) (u16_spelling c.args.version) c.push_byte.new.self c.write_u16.new.out c.push_byte.ensures c.write_u16.ensures in
    let b = written-two out version limits c.write_u16.new.out c.write_limits.new.out a c.write_limits.ensures in
    let d = written-two out (version ++ limits) own c.write_limits.new.out c.write_u16-2.new.out b c.write_u16-2.ensures in
    let e = written-two out (version ++ limits ++ own) known c.write_u16-2.new.out c.write_u64.new.out d c.write_u64.ensures in
    written-two out (version ++ limits ++ own ++ known) (u32_spelling c.args.kept) c.write_u64.new.out c.write_u32.new.out e c.write_u32.ensures

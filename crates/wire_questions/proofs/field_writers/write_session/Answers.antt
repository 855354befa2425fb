use Rattle.std.proofs.Common.{◌++◌}
use Rattle.wire_item.specs.Spellings.{id_spelling, parents_spelling, u16_spelling}
use Rattle.wire_item.proofs.Written.{written-two}
use Rattle.wire_talk.specs.Spellings.{flag_spelling}
use Rattle.wire_questions.proofs.field_writers.write_session.Goals as goal

pub returns : goal.returns
returns c =
    let l = c.args.line.now in
    let out = c.args.out.now in
    let number = u16_spelling l.number in
    let follow = flag_spelling l.follow in
    let ceiling = id_spelling l.ceiling in
    let last = id_spelling l.last in
    let reads = parents_spelling l.reads in
    let a = written-two out number follow c.write_u16.new.out c.write_flag.new.out c.write_u16.ensures c.write_flag.ensures in
    let b = written-two out (number ++ follow) ceiling c.write_flag.new.out c.write_id.new.out a c.write_id.ensures in
    let d = written-two out (number ++ follow ++ ceiling) last c.write_id.new.out c.write_id-2.new.out b c.write_id-2.ensures in
    let e = written-two out (number ++ follow ++ ceiling ++ last) reads c.write_id-2.new.out c.write_few.new.out d c.write_few.ensures in
    written-two out (number ++ follow ++ ceiling ++ last ++ reads) (flag_spelling l.holds) c.write_few.new.out c.write_flag-2.new.out e c.write_flag-2.ensures

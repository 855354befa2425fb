use Rattle.std.proofs.Common.{[], ◌∷◌}
use Rattle.wire_item.specs.Spellings.{id_spelling}
use Rattle.wire_item.proofs.Written.{written-two}
use Rattle.plain_questions.specs.Spellings.{first_sessions_spelling}
use Rattle.wire_questions.proofs.answer_writers.write_sessions.Goals as goal

pub returns : goal.returns
returns c =
    let out = c.args.out.now in
    let floor = id_spelling c.args.floor in
    let a = written-two out (69 ∷ []) floor c.push_byte.new.self c.write_id.new.out c.push_byte.ensures c.write_id.ensures in
    written-two out (69 ∷ floor) (first_sessions_spelling c.args.total c.args.first.now) c.write_id.new.out c.write_first_sessions.new.out a
    c.write_first_sessions.ensures

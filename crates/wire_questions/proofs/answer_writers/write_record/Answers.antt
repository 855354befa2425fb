use Rattle.std.proofs.Common.{◌∷◌, ◌++◌}
use Rattle.wire_item.specs.Spellings.{u64_spelling, parents_spelling}
use Rattle.wire_item.proofs.Written.{written-two}
use Rattle.wire_talk.specs.Spellings.{children_spelling}
use Rattle.plain_questions.specs.Spellings.{written_spelling}
use Rattle.wire_questions.proofs.answer_writers.write_record.Goals as goal

pub returns : goal.returns
returns c =
    let out = c.args.out.now in
    let arrival = 67 ∷ u64_spelling c.args.arrival in
    let parents = parents_spelling c.args.parents.now in
    let kept = parents_spelling c.args.kept_parents.now in
    let children = children_spelling c.args.kept_children.now in
    let a = written-two out arrival parents c.write_arrival.new.out c.write_few.new.out c.write_arrival.ensures c.write_few.ensures in
    let b = written-two out (arrival ++ parents) kept c.write_few.new.out c.write_few-2.new.out a c.write_few-2.ensures in
    let d = written-two out (arrival ++ parents ++ kept) children c.write_few-2.new.out c.write_children.new.out b c.write_children.ensures in
    written-two out (arrival ++ parents ++ kept ++ children) (written_spelling c.args.keys.now) c.write_children.new.out c.write_written.new.out d
    c.write_written.ensures

use Rattle.std.proofs.Common.{◌∷◌, ◌++◌}
use Rattle.wire_item.specs.Spellings.{u64_spelling}
use Rattle.wire_item.proofs.Written.{written-two}
use Rattle.wire_talk.specs.Spellings.{children_spelling, path_spelling}
use Rattle.talk_bytes.proofs.reply_writers.write_shown.Goals as goal

pub returns : goal.returns
returns c =
    let arrival = 15 ∷ u64_spelling c.args.arrival in
    let children = children_spelling c.args.children.now in
    let path = path_spelling c.args.path.now in
    let out = c.args.out.now in
    let two = written-two out arrival children c.write_arrival.new.out c.write_children.new.out c.write_arrival.ensures c.write_children.ensures in
    written-two out (arrival ++ children) path c.write_children.new.out c.write_path.new.out two c.write_path.ensures

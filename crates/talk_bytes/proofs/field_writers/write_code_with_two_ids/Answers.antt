use Rattle.std.proofs.Common.{◌∷◌}
use Rattle.wire_item.specs.Spellings.{id_spelling}
use Rattle.wire_item.proofs.Written.{written-two}
use Rattle.talk_bytes.proofs.field_writers.write_code_with_two_ids.Goals as goal

pub returns : goal.returns
returns c =
    written-two c.args.out.now (c.args.code ∷ id_spelling c.args.first) (id_spelling c.args.second) c.write_code_with_id.new.out c.write_id.new.out
    c.write_code_with_id.ensures c.write_id.ensures

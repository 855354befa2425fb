use Rattle.std.proofs.Common.{◌∷◌}
use Rattle.wire_item.specs.Spellings.{id_spelling, u32_spelling}
use Rattle.wire_item.proofs.Written.{written-two}
use Rattle.talk_bytes.proofs.field_writers.write_code_with_id_and_u32.Goals as goal

pub returns : goal.returns
returns c =
    written-two c.args.out.now (c.args.code ∷ id_spelling c.args.id) (u32_spelling c.args.number) c.write_code_with_id.new.out c.write_u32.new.out
    c.write_code_with_id.ensures c.write_u32.ensures

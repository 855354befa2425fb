use Rattle.std.proofs.Common.{[], ◌∷◌, ◌++◌}
use Rattle.wire_item.specs.Spellings.{id_spelling, u32_spelling}
use Rattle.wire_item.proofs.Written.{written-two}
use Rattle.talk_bytes.proofs.refusal_writers.write_branches.Goals as goal

pub returns : goal.returns
returns c =
    written-two c.args.out.now (15 ∷ []) (c.args.constraint ∷ (id_spelling c.args.state ++ u32_spelling c.args.children)) c.push_byte.new.self
    c.write_code_with_id_and_u32.new.out c.push_byte.ensures c.write_code_with_id_and_u32.ensures

use Rattle.std.proofs.Common.{[], ◌∷◌, ◌++◌, ap, length, ◌∙◌}
use Rattle.std.specs.Prelude.{flat_map}
use Rattle.wire_item.proofs.Written.{written-two}
use Rattle.plain_questions.specs.Spellings.{fork_read_spelling}
use Rattle.wire_questions.proofs.field_writers.write_fork_reads.Goals as goal

pub returns : goal.returns
returns c =
    let out = c.args.out.now in
    let reads = c.args.reads.now in
    written-two out (length reads ∷ []) (flat_map fork_read_spelling reads) c.write_u8.new.out c.write_each_fork_read.new.out
    (c.write_u8.ensures ∙ ap (λ n. out ++ n ∷ []) c.len.ensures) c.write_each_fork_read.ensures

use Rattle.std.proofs.Common.{arith}
use Rattle.wire_questions.proofs.Lengths.{entries-few}
use Rattle.wire_questions.proofs.field_writers.write_first_entries.Goals as goal

pub overflow_cast-len : goal.overflow_cast-len
overflow_cast-len c = omega (arith, entries-few c.args.total c.args.first.now c.requires.valid, c.len.ensures)

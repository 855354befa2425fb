use Rattle.std.proofs.Common.{◌≡◌, ◌++◌, take}
use Rattle.std.specs.Prelude.{flat_map}
use Rattle.plain_questions.specs.Spellings.{fork_read_spelling}
use Rattle.wire_questions.proofs.field_writers.write_each_fork_read.Given as goal

abbrev pub invariant-loop-read : goal.invariant-loop-read
invariant-loop-read l = l.out ≡ l.fn.out ++ flat_map fork_read_spelling (take l.read-index l.read-items)

use Rattle.std.proofs.Common.{◌≡◌, ◌++◌, take}
use Rattle.std.specs.Prelude.{flat_map}
use Rattle.plain_questions.specs.Spellings.{session_spelling}
use Rattle.wire_questions.proofs.field_writers.write_each_session.Given as goal

abbrev pub invariant-loop-line : goal.invariant-loop-line
invariant-loop-line l = l.out ≡ l.fn.out ++ flat_map session_spelling (take l.line-index l.line-items)

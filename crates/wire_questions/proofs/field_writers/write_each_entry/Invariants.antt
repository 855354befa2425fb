use Rattle.std.proofs.Common.{◌≡◌, ◌++◌, take}
use Rattle.std.specs.Prelude.{flat_map}
use Rattle.plain_questions.specs.Spellings.{entry_spelling}
use Rattle.wire_questions.proofs.field_writers.write_each_entry.Given as goal

abbrev pub invariant-loop-entry : goal.invariant-loop-entry
invariant-loop-entry l = l.out ≡ l.fn.out ++ flat_map entry_spelling (take l.entry-index l.entry-items)

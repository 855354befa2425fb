use Rattle.std.proofs.Common.{List}
use Rattle.std.specs.Prelude.{Ok}
use Rattle.std.specs.Option.{option_copied}
use Rattle.wire_item.proofs.Progress.{Progress}
use Rattle.branch_export.specs.Exports.{Entry}
use Rattle.branch_export.specs.Readings.{entry_front, are_ascending}
use Rattle.branch_export.proofs.judging.ascending_entries.Given as goal

abbrev pub invariant-loop-place : goal.invariant-loop-place
invariant-loop-place l = (es : List Entry) × Progress (λ (e : Entry). e.0) are_ascending entry_front l.initial.reader l._place l.reader
    (option_copied l.last) (Ok es)

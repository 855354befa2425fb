use Rattle.wire_item.specs.Readings.{record_front}
use Rattle.shell_text.proofs.Passings.{lacking}
use Rattle.wire_item.proofs.Gathering.{Gathered}
use Rattle.shell_text.proofs.passing.pass_counted_records.Given as goal

abbrev pub invariant-loop-place : goal.invariant-loop-place
invariant-loop-place l = Gathered record_front l.initial.reader l._place l.reader (lacking)

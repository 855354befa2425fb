use Rattle.wire_item.specs.Readings.{record_front}
use Rattle.wire_item.proofs.Gathering.{Gathered}
use Rattle.item_bytes.proofs.readers.Reader.counted_records.Given as goal

abbrev pub invariant-loop-place : goal.invariant-loop-place
invariant-loop-place l = Gathered record_front l.initial.self l._place l.self l.records

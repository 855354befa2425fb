use Rattle.wire_item.specs.Readings.{u32_front}
use Rattle.wire_item.proofs.Gathering.{Gathered}
use Rattle.talk_bytes.proofs.request_field_readers.numbers.Given as goal

abbrev pub invariant-loop-place : goal.invariant-loop-place
invariant-loop-place l = Gathered u32_front l.initial.reader l._place l.reader l.numbers

use Rattle.wire_item.specs.Readings.{id_front}
use Rattle.wire_item.proofs.Gathering.{Gathered}
use Rattle.talk_bytes.proofs.list_readers.ids.Given as goal

abbrev pub invariant-loop-place : goal.invariant-loop-place
invariant-loop-place l = Gathered id_front l.initial.reader l._place l.reader l.ids

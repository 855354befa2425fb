use Rattle.wire_item.specs.Fronts.{both}
use Rattle.wire_item.specs.Readings.{id_front, u32_front}
use Rattle.wire_item.proofs.Gathering.{Gathered}
use Rattle.talk_bytes.proofs.list_readers.pairs.Given as goal

abbrev pub invariant-loop-place : goal.invariant-loop-place
invariant-loop-place l = Gathered (both id_front u32_front) l.initial.reader l._place l.reader l.pairs

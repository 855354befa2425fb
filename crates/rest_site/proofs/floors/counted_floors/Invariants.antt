use Rattle.wire_item.proofs.Gathering.{Gathered}
use Rattle.rest_site.specs.Takings.{told_floor_front}
use Rattle.rest_site.proofs.floors.counted_floors.Given as goal

abbrev pub invariant-loop-place : goal.invariant-loop-place
invariant-loop-place l = Gathered told_floor_front l.fn.reader l._place l.reader l.floors

use Rattle.std.proofs.Common.{map}
use Rattle.twin_stores.specs.Tables.{outline}
use Rattle.twin_stores.proofs.Places.{AreSameBefore}
use Rattle.twin_stores.proofs.tables.say_the_same.Given as goal

abbrev pub invariant-loop-place : goal.invariant-loop-place
invariant-loop-place l = AreSameBefore l.place (map (outline l.one) l.one.entries) (map (outline l.other) l.other.entries)

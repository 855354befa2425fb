use Rattle.std.proofs.Common.{map}
use Rattle.state_dag.specs.Table.{id_at}
use Rattle.twin_stores.proofs.Places.{AreSameBefore}
use Rattle.twin_stores.proofs.tables.name_the_same.Given as goal

abbrev pub invariant-loop-place : goal.invariant-loop-place
invariant-loop-place l = AreSameBefore l.place (map (id_at l.one) l.slots) (map (id_at l.other) l.others)

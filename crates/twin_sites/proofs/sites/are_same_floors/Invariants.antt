use Rattle.std.proofs.Common.{map}
use Rattle.ceiling_book.specs.Book.{known_floor}
use Rattle.twin_stores.proofs.Places.{AreSameBefore}
use Rattle.twin_sites.proofs.sites.are_same_floors.Given as goal

abbrev pub invariant-loop-place : goal.invariant-loop-place
invariant-loop-place l = AreSameBefore l.place (map known_floor l.floors) (map known_floor l.others)

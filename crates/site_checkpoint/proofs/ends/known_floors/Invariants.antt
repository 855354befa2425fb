use Rattle.std.proofs.Common.{◌≡◌, ◌+◌, map, take, drop}
use Rattle.std.specs.List.{All}
use Rattle.state_dag.specs.Stands.{Stands}
use Rattle.ceiling_book.specs.Book.{known_floor}
use Rattle.ceiling_book.specs.Places.{IsAt}
use Rattle.plain_checkpoint.specs.Checkpoints.{Told}
use Rattle.site_checkpoint.specs.Ends.{floors_told, may_be_floors}
use Rattle.site_checkpoint.proofs.ends.known_floors.Given as goal

abbrev pub invariant-loop-place : goal.invariant-loop-place
invariant-loop-place l = record {
  told : map known_floor l.known.items ≡ floors_told (take l.place l.floors);
  at : All (λ f. IsAt l.dag f.place) l.known.items;
  fits : (t : Told) → Stands l.dag t.dag t.collected → may_be_floors t 1 (floors_told l.floors)
      ≡ may_be_floors t (l.place + 1) (floors_told (drop l.place l.floors));
}

use Rattle.std.proofs.Common.{◌≤◌, length, List}
use Rattle.tardis_base.specs.declared.ids.StateId.{StateId}
use Rattle.tardis_base.specs.declared.records.Record.{Record}
use Rattle.state_dag.specs.Stands.{Stands}
use Rattle.ceiling_book.specs.Book.{floors_of}
use Rattle.ceiling_book.specs.Places.{ArePlaced}
use Rattle.path_compress.specs.Places.{NoneCollectable}
use Rattle.path_compress.proofs.first_floor.Given as goal

abbrev pub invariant-loop-site : goal.invariant-loop-site
invariant-loop-site l = record {
  within : l.first ≤ length l.dag.entries;
  open-from : (rs : List Record) (ks : List StateId) → Stands l.dag rs ks → ArePlaced l.book l.dag rs ks → NoneCollectable rs (floors_of l.book) ks l.first;
}

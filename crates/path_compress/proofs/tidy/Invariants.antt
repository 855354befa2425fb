use Rattle.std.proofs.Common.{◌≤◌, List}
use Rattle.tardis_base.specs.declared.ids.StateId.{StateId}
use Rattle.tardis_base.specs.declared.records.Record.{Record}
use Rattle.ceiling_book.specs.Book.{floors_of}
use Rattle.path_compress.specs.Together.{StandTogether, KeepsNumbers, KeepsPromises}
use Rattle.path_compress.proofs.Walks.{Walk}
use Rattle.path_compress.proofs.tidy.Given as goal

abbrev pub invariant-loop-place : goal.invariant-loop-place
invariant-loop-place l = record {
  walk : (rs : List Record) (ks : List StateId) → StandTogether l.fn.store l.fn.book rs ks →
      Walk l.fn.store l.store l.book rs ks (floors_of l.fn.book) l.n l.count l.place;
  numbers : KeepsNumbers l.fn.store.table l.store.table;
  promises : KeepsPromises l.fn.book l.book;
  few : l.count ≤ l.n;
}
